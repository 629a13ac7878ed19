-- A reader of the records of a symbol file, which finds the frames of an address. Its definition doesn't depend on how
-- the records are written.
use Rattle.std.specs.Prelude.{ℕ, suc, zero, ◌+◌, List, [], ◌∷◌, length, Bool, true, not, nat_lt, ◌==◌, ◌&&◌}
use Rattle.std.specs.Prelude.{if◌then◌else◌}
use Rattle.std.specs.Prelude.{Option, Some, None, option_map}
use Rattle.pdb_breakpad.specs.ShownFrames.{ShownCall, ShownFrame, ShownPlace, stack_read}
use Rattle.pdb_symbol_file_laws.specs.SymbolTextReader.{SymbolLine, File, InlineOrigin, Func, Public, Inline, CodeLine}
use Rattle.pdb_symbol_file_laws.specs.SymbolTextReader.{read_text}

-- whether an address is one of `size` addresses from `start` on
abbrev pub reaches : ℕ → ℕ → ℕ → Bool
reaches start size address = not (nat_lt address start) && nat_lt address (start + size)

-- the name of the file with a number, by its record; none is empty
abbrev pub file_named : ℕ → List SymbolLine → List ℕ
file_named number [] = []
file_named number (File n name ∷ lines) = if n == number then name else file_named number lines
file_named number (line ∷ lines) = file_named number lines

-- the name of the inlined function with a number, by its record; none is empty
abbrev pub origin_named : ℕ → List SymbolLine → List ℕ
origin_named number [] = []
origin_named number (InlineOrigin n name ∷ lines) = if n == number then name else origin_named number lines
origin_named number (line ∷ lines) = origin_named number lines

-- the records that belong to a function: those after its own, up to the next function
abbrev pub own_records : List SymbolLine → List SymbolLine
own_records [] = []
own_records (Func start size name ∷ lines) = []
own_records (Public start name ∷ lines) = []
own_records (line ∷ lines) = line ∷ own_records lines

-- whether an address is before the next function, if there is one
abbrev pub is_before_next : ℕ → List SymbolLine → Bool
is_before_next address [] = true
is_before_next address (Func start size name ∷ lines) = nat_lt address start
is_before_next address (Public start name ∷ lines) = nat_lt address start
is_before_next address (line ∷ lines) = is_before_next address lines

-- a function at an address: its name, and the records that belong to it
pub record FunctionMatch : Type 0 where
  pub name : List ℕ
  pub records : List SymbolLine

-- the first function that contains an address; one without a size reaches up to the next function
abbrev pub function_at : ℕ → List SymbolLine → Option FunctionMatch
function_at address [] = None
function_at address (Func start size name ∷ lines) =
    if reaches start size address then Some (record { name = name; records = own_records lines })
    else function_at address lines
function_at address (Public start name ∷ lines) =
    if not (nat_lt address start) && is_before_next address lines
    then Some (record { name = name; records = own_records lines }) else function_at address lines
function_at address (line ∷ lines) = function_at address lines

-- the first inlined call of a level at an address, by a function's records, with names by all records
abbrev pub call_read : List SymbolLine → ℕ → ℕ → List SymbolLine → Option ShownCall
call_read all address level [] = None
call_read all address level (Inline l line file origin start size ∷ lines) =
    if l == level && reaches start size address
    then Some (record {
      place = record { file = file_named file all; line = line };
      function = origin_named origin all;
    })
    else call_read all address level lines
call_read all address level (line ∷ lines) = call_read all address level lines

-- a call and the calls inside it, or no calls if there is no outer one
abbrev pub and_inner : Option ShownCall → List ShownCall → List ShownCall
and_inner None inner = []
and_inner (Some call) inner = call ∷ inner

-- the inlined calls at an address, from outside to inside: one of each level from this one on, up to the first level
-- without one, and at most this many
abbrev pub calls_read : List SymbolLine → ℕ → List SymbolLine → ℕ → ℕ → List ShownCall
calls_read all address records zero level = []
calls_read all address records (suc most) level =
    and_inner (call_read all address level records) (calls_read all address records most (level + 1))

-- the place of the first line record that contains an address
abbrev pub place_read : List SymbolLine → ℕ → List SymbolLine → Option ShownPlace
place_read all address [] = None
place_read all address (CodeLine start size line file ∷ lines) =
    if reaches start size address then Some (record { file = file_named file all; line = line })
    else place_read all address lines
place_read all address (line ∷ lines) = place_read all address lines

-- the frames of a function at an address, from outside to inside; each inlined call has a record of its own
abbrev pub frames_read : List SymbolLine → ℕ → FunctionMatch → List ShownFrame
frames_read all address found =
    stack_read found.name (calls_read all address found.records (length found.records) 0)
    (place_read all address found.records)

-- the frames at an address by the records; none if no function contains it
unfoldable pub shown_by_records : List SymbolLine → ℕ → Option (List ShownFrame)
shown_by_records lines address = option_map (frames_read lines address) (function_at address lines)

-- the frames at an address by the text of a symbol file
abbrev pub shown_by_text : List ℕ → ℕ → Option (List ShownFrame)
shown_by_text text address = shown_by_records (read_text text) address
