-- The names of functions.
use Rattle.std.specs.Prelude.{◌≡◌, ℕ, ◌==◌, ◌&&◌, not, Bool, false, List, [], ◌∷◌, Option}
use Rattle.std.specs.Prelude.{Some, None, option_map, option_and_then, if◌then◌else◌}
use Rattle.std.specs.List.{AllByRecursion}
use Rattle.std.specs.Option.{option_or, option_map_or}
use Rattle.pdb_records.specs.Names.{lossy}
use Rattle.pdb_records.specs.declared.addresses.PdbInternalSectionOffset.{PdbInternalSectionOffset}
use Rattle.pdb_records.specs.declared.ids.IdIndex.{IdIndex}
use Rattle.pdb_types.specs.FailedParts.{Parts}
use Rattle.pdb_types.specs.TypeInputs.{TypeInputs}
use Rattle.pdb_records.specs.Provided.{ProviderInfos}
use Rattle.pdb_functions.specs.GlobalFunctions.{GlobalFunction}
use Rattle.pdb_functions.specs.Procedures.{ModuleProcedure}
use Rattle.pdb_functions.specs.FunctionMatches.{FunctionMatch, found_procedure, found_global, global_at}
use Rattle.pdb_types.specs.declared.read_error.Part.{Part}
use Rattle.pdb_type_texts.specs.BrokenParts.{AddsBroken, IsBroken, with_parts}
use Rattle.pdb_type_texts.specs.Documents.{PrintError, Run}
use Rattle.pdb_type_texts.specs.Printed.{signature_run, id_run}
use Rattle.pdb_type_texts.specs.PrintInputs.{formatter_inputs}

-- whether a name is decorated: it begins with a question mark
abbrev pub is_decorated : List ℕ → Bool
is_decorated [] = false
is_decorated (c ∷ cs) = c == 63

-- the decorated name of a global function, if it has one
abbrev pub decorated_name : GlobalFunction → Option (List ℕ)
decorated_name f = option_and_then (λ name. if is_decorated name then Some (lossy name) else None) f.name

-- the decorated name of the global function that starts at a section offset
abbrev pub decorated_at : List GlobalFunction → PdbInternalSectionOffset → Option (List ℕ)
decorated_at globals start = option_and_then decorated_name (global_at start globals)

-- the decorated name at a procedure's start, which replaces its name if it has no type and no decorated name of its own
abbrev pub decorated_instead : List GlobalFunction → ModuleProcedure → Option (List ℕ)
decorated_instead globals p =
    if p.type_index.0 == 0 && not (is_decorated p.name) then decorated_at globals p.offset else None

-- the text of printing, unless it has a fault
abbrev pub faultless : Option PrintError → List ℕ → Option (List ℕ)
faultless None text = Some text
faultless (Some failure) text = None

-- the text of a run that succeeds
abbrev pub text_of_run : Run → Option (List ℕ)
text_of_run r = faultless r.fault r.text

-- the signature of a function, if it can be printed, by its name and the index of its type in the module with this
-- index. A law shows that it doesn't depend on which parts of the records failed before, so here none has
abbrev pub signature_text : {P : Type 0} → (P → ProviderInfos) → TypeInputs P → ℕ → List ℕ → ℕ
    → Option (List ℕ)
signature_text info type_inputs module_index name index =
    text_of_run (signature_run info type_inputs module_index name index [])

-- the name of a procedure of the module with this index: the decorated name that replaces it, otherwise its signature
-- if that can be printed
abbrev pub procedure_name : {P : Type 0} → (P → ProviderInfos) → TypeInputs P → List GlobalFunction → ℕ
    → ModuleProcedure
    → Option (List ℕ)
procedure_name info type_inputs globals module_index p =
    option_or (decorated_instead globals p) (signature_text info type_inputs module_index (lossy p.name) p.type_index.0)

-- the parts that have failed after a procedure was named; only the printing of its signature adds some
abbrev pub failed_by_name : {P : Type 0} → (P → ProviderInfos) → TypeInputs P → List GlobalFunction → ℕ
    → ModuleProcedure
    → Parts → Parts
failed_by_name info type_inputs globals module_index p failed =
    let run = signature_run info type_inputs module_index (lossy p.name) p.type_index.0 failed in
    option_map_or (λ name. failed) (decorated_instead globals p) run.failed

-- the name of a function, if it is known: that of a global function as text, or that of a procedure
abbrev pub function_name : {P : Type 0} → (P → ProviderInfos) → TypeInputs P → List GlobalFunction → FunctionMatch
    → Option (List ℕ)
function_name info type_inputs globals (found_global m f) = option_map lossy f.name
function_name info type_inputs globals (found_procedure m p) = procedure_name info type_inputs globals m p

-- the name of a function's symbol as text, if it has one
abbrev pub symbol_name : FunctionMatch → Option (List ℕ)
symbol_name (found_global m f) = option_map lossy f.name
symbol_name (found_procedure m p) = Some (lossy p.name)

-- the parts that have failed after a function was named; a global function adds none
abbrev pub failed_by_function_name : {P : Type 0} → (P → ProviderInfos) → TypeInputs P → List GlobalFunction
    → FunctionMatch
    → Parts → Parts
failed_by_function_name info type_inputs globals (found_global m f) failed = failed
failed_by_function_name info type_inputs globals (found_procedure m p) failed =
    failed_by_name info type_inputs globals m p failed

-- the name of an inlined function, by its id in the module with this index, if it can be printed
abbrev pub id_name : {P : Type 0} → (P → ProviderInfos) → TypeInputs P → ℕ → IdIndex → Option (List ℕ)
id_name info type_inputs module_index id = text_of_run (id_run info type_inputs module_index id.0 [])

-- the parts that have failed after the name of an inlined function was printed
abbrev pub failed_by_id : {P : Type 0} → (P → ProviderInfos) → TypeInputs P → ℕ → IdIndex → Parts → Parts
failed_by_id info type_inputs module_index id failed =
    let run = id_run info type_inputs module_index id.0 failed in
    run.failed

-- the failed parts are those from before, and others that are broken for some module
abbrev pub GainsBroken : {P : Type 0} → (P → ProviderInfos) → TypeInputs P → Parts → Parts → Type 0
GainsBroken info type_inputs old new = (module_index : ℕ)
    × AddsBroken (formatter_inputs info type_inputs module_index) old new

-- a part is broken for some module
abbrev pub IsBrokenForSome : {P : Type 0} → (P → ProviderInfos) → TypeInputs P → Part → Type 0
IsBrokenForSome info type_inputs part = (module_index : ℕ)
    × IsBroken (formatter_inputs info type_inputs module_index) part

-- the failed parts are those from before, and others that are each broken for some module
pub record GainsBrokenParts {P : Type 0} (info : P → ProviderInfos) (type_inputs : TypeInputs P)
    (old new : Parts) : Type 0 where
  pub added : List Part
  pub broken : AllByRecursion (IsBrokenForSome info type_inputs) added
  pub is : new ≡ with_parts old added
