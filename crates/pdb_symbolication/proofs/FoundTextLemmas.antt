-- Members of what was found, part by part.
use Rattle.std.proofs.Common.{◌≡◌, ◌∙◌, ap, sym, ℕ, ◌-◌, ◌<◌, List, []}
use Rattle.std.proofs.Common.{◌∷◌, ◌++◌, length, map, codes, Some, arith, Bor, refl}
use Rattle.std.proofs.Math.Seq.{take-append_seam}
use Rattle.std.specs.List.{IsLastAndRest, slice_get}
use Rattle.pdb_symbolication.specs.FrameTexts.{function_members, inlined_call, inlines_member, members_within}
use Rattle.pdb_symbolication.specs.FrameTexts.{location_members, place_members, text_member}
use Rattle.pdb_symbolication.specs.JsonObjects.{array, hexadecimal, later, member, separated}
use Rattle.pdb_symbolication.specs.JsonTexts.{quoted}
use Rattle.pdb_symbolication.specs.declared.frame_texts.SymbolizedFrame.{SymbolizedFrame}
use Rattle.pdb_symbolication.proofs.JsonLemmas.{later-append, later_one}

-- a function's name, and then its offset
pub function_text : (known : Bor (List ℕ)) (within : ℕ)
    → later (text_member (codes "function") (Some known)) ++ (codes ",\"function_offset\":" ++ hexadecimal within)
    ≡ later (function_members (Some known) within)
function_text known within =
    let name = member (codes "function") (quoted known.now) in
    let offset = member (codes "function_offset") (hexadecimal within) in
    sym (later-append (name ∷ []) (offset ∷ [])
    ∙ ap (λ (text : List ℕ). later (name ∷ []) ++ text) (later_one offset))

-- calls, between the brackets of their member
pub inlines_text : (calls : List SymbolizedFrame) → 0 < length calls
    → codes ",\"inlines\":[" ++ (separated (map inlined_call calls) ++ codes "]") ≡ later (inlines_member calls)
inlines_text [] some = absurd (omega arith)
inlines_text (call ∷ calls) some = sym (later_one (member (codes "inlines") (array (map inlined_call (call ∷ calls)))))

slice_get-append : (calls : List SymbolizedFrame) (own : SymbolizedFrame) → slice_get (calls ++ (own ∷ [])) (length calls) ≡ Some own
slice_get-append [] own = refl
slice_get-append (call ∷ calls) own = slice_get-append calls own

-- the members of places, of which the last and those before it are known
pub members_of_last : (within : ℕ) (places : List SymbolizedFrame) (own : SymbolizedFrame) (calls : List SymbolizedFrame)
    → IsLastAndRest places own calls → members_within within own calls ≡ place_members within places
members_of_last within places own calls last =
    let whole : places ≡ calls ++ (own ∷ []) = last.0 in
    let count : length places - 1 ≡ length calls = omega (arith, last.1) in
    let there : slice_get (calls ++ (own ∷ [])) (length calls) ≡ Some own = slice_get-append calls own in
    let before = take-append_seam calls (own ∷ []) in
    rw (count, whole, there, before)

-- members in three parts
pub members_text : (within : ℕ) (own : SymbolizedFrame) (calls : List SymbolizedFrame)
    → later (function_members own.function within) ++ (later (location_members own) ++ later (inlines_member calls))
    ≡ later (members_within within own calls)
members_text within own calls =
    let function = function_members own.function within in
    sym (later-append function (location_members own ++ inlines_member calls)
    ∙ ap (λ (text : List ℕ). later function ++ text) (later-append (location_members own) (inlines_member calls)))
