-- The answer for an offset of a module: the members of what was found there.
use Rattle.std.specs.Prelude.{ℕ, ◌-◌, List, [], ◌∷◌, ◌++◌, codes, length, map, slice_get, take, string_bytes}
use Rattle.std.specs.Prelude.{Option, None, Some}
use Rattle.std.specs.Borrow.{Bor}
use Rattle.std.specs.Fmt.{decimal}
use Rattle.std.specs.Option.{option_map_or}
use Rattle.pdb_symbolication.specs.JsonObjects.{array, hexadecimal, later, member, object}
use Rattle.pdb_symbolication.specs.JsonTexts.{quoted}
use Rattle.pdb_symbolication.specs.declared.frame_texts.SymbolizedFunction.{SymbolizedFunction}
use Rattle.pdb_symbolication.specs.declared.frame_texts.FrameTexts.{FrameTexts}
use Rattle.pdb_symbolication.specs.declared.frame_texts.SymbolizedFrame.{SymbolizedFrame}

-- the member with this name and a text as its value, if the text is known
abbrev pub text_member : List ℕ → Option (Bor (List ℕ)) → List (List ℕ)
text_member name None = []
text_member name (Some text) = member name (quoted text.now) ∷ []

-- the member with the line, if it is known
abbrev pub line_member : Option ℕ → List (List ℕ)
line_member None = []
line_member (Some line) = member (codes "line") (decimal line) ∷ []

-- the file and the line of a place, as far as they are known
abbrev pub location_members : SymbolizedFrame → List (List ℕ)
location_members place = text_member (codes "file") place.file ++ line_member place.line

-- an inlined call: its function, its file and its line, as far as they are known
abbrev pub inlined_call : SymbolizedFrame → List ℕ
inlined_call call = object (text_member (codes "function") call.function ++ location_members call)

-- the member with the calls that are inlined at an address, from inside to outside, if there are any
abbrev pub inlines_member : List SymbolizedFrame → List (List ℕ)
inlines_member [] = []
inlines_member (call ∷ calls) = member (codes "inlines") (array (map inlined_call (call ∷ calls))) ∷ []

-- the name of a function, and the offset of the address from its start; no members if the name isn't known
abbrev pub function_members : Option (Bor (List ℕ)) → ℕ → List (List ℕ)
function_members None within = []
function_members (Some name) within =
    member (codes "function") (quoted name.now) ∷ (member (codes "function_offset") (hexadecimal within) ∷ [])

-- the members of a function, `within` bytes after its start: its own file and line, and the calls that are inlined
-- there
abbrev pub members_within : ℕ → SymbolizedFrame → List SymbolizedFrame → List (List ℕ)
members_within within own calls = function_members own.function within ++ (location_members own ++ inlines_member calls)

-- the members `within` bytes after a function's start, by its places from inside to outside. The last place is the
-- function's own; those before it are inlined calls
abbrev pub place_members : ℕ → List SymbolizedFrame → List (List ℕ)
place_members within places =
    option_map_or (λ own. members_within within own (take (length places - 1) places))
    (slice_get places (length places - 1)) []

-- the members at an offset of a module, if a function was found there
abbrev pub found_members : ℕ → Option SymbolizedFunction → List (List ℕ)
found_members offset None = []
found_members offset (Some found) = place_members (offset - found.start) found.places.items

-- the text at an offset: the members of what was found there, after other members
abbrev pub frame_text : ℕ → Option SymbolizedFunction → List ℕ
frame_text offset found = later (found_members offset found)

-- the texts at offsets of a module, in the order in which they were added
abbrev pub texts_of : FrameTexts → List (List ℕ)
texts_of texts = map string_bytes texts.texts.items
