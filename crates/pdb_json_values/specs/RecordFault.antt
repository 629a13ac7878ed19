-- The faults of records files, with the path to the value at fault.
use Rattle.std.specs.Prelude.{◌≡◌, ℕ, List, ◌++◌, Result, Ok, Err, string_bytes, codes}
use Rattle.pdb_json_values.specs.declared.record_fault.RecordFault.{RecordFault}
use Rattle.pdb_json_values.specs.declared.record_fault.RecordFault.TheVariants as code

-- a fault: the text is no JSON; more or fewer module files are given than wanted; or the value at a path has the wrong
-- kind, is a number out of range, or names a module file that is no JSON
pub data Fault : Type 0 where
  not_json : Fault
  module_files : (wanted given : ℕ) → Fault
  shape : (path wanted : List ℕ) → Fault
  out_of_range : (path : List ℕ) → Fault
  module_not_json : (path : List ℕ) → Fault

-- a path through a member or an element: its name comes before the rest, after a `/`
abbrev pub through : List ℕ → List ℕ → List ℕ
through name path = codes "/" ++ (name ++ path)

-- a fault inside a member or an element
abbrev pub inside : List ℕ → Fault → Fault
inside name not_json = not_json
inside name (module_files wanted given) = module_files wanted given
inside name (shape path wanted) = shape (through name path) wanted
inside name (out_of_range path) = out_of_range (through name path)
inside name (module_not_json path) = module_not_json (through name path)

-- the result of reading inside a member or an element
abbrev pub read_inside : {X : Type 0} → List ℕ → Result X Fault → Result X Fault
read_inside name (Ok x) = Ok x
read_inside name (Err fault) = Err (inside name fault)

-- passes a value to the next step of reading; the first fault is the result
infixl 10 ◌>>=◌
abbrev pub ◌>>=◌ : {X Y : Type 0} → Result X Fault → (X → Result Y Fault) → Result Y Fault
(Ok x) >>= next = next x
(Err fault) >>= next = Err fault

-- the code's fault is the defined one, except after an allocation failure
abbrev pub IsFaultOf : {X : Type 0} → RecordFault → Result X Fault → Type 0
IsFaultOf code.NotJson read = read ≡ Err not_json
IsFaultOf (code.ModuleFiles wanted given) read = read ≡ Err (module_files wanted given)
IsFaultOf (code.Shape path wanted) read = read ≡ Err (shape (string_bytes path) (string_bytes wanted))
IsFaultOf (code.NumberOutOfRange path) read = read ≡ Err (out_of_range (string_bytes path))
IsFaultOf (code.ModuleNotJson path) read = read ≡ Err (module_not_json (string_bytes path))
IsFaultOf code.OutOfMemory read = Unit {0}

-- the code's result is the defined one, except after an allocation failure
abbrev pub Agrees : {X : Type 0} → Result X RecordFault → Result X Fault → Type 0
Agrees (Ok x) read = read ≡ Ok x
Agrees (Err fault) read = IsFaultOf fault read

-- the code's result as `seen` shows it, such as the value of a reference, is the defined one, except after an
-- allocation failure
abbrev pub AgreesBy : {X Y : Type 0} → (X → Y) → Result X RecordFault → Result Y Fault → Type 0
AgreesBy seen (Ok x) read = read ≡ Ok (seen x)
AgreesBy seen (Err fault) read = IsFaultOf fault read
