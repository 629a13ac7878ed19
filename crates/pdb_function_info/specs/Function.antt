-- Function info.
use Rattle.std.specs.Prelude.{ℕ, ◌+◌, ◌^◌, List, string_bytes, Option, Some, None}
use Rattle.std.specs.Prelude.{option_map, option_and_then, nat_lt, if◌then◌else◌}
use Rattle.std.specs.Option.{option_map_or}
use Rattle.pdb_records.specs.Names.{lossy}
use Rattle.pdb_records.specs.Addresses.{rva}
use Rattle.pdb_records.specs.declared.addresses.AddressRange.{AddressRange}
use Rattle.pdb_types.specs.FailedParts.{Parts}
use Rattle.pdb_types.specs.TypeInputs.{TypeInputs}
use Rattle.pdb_records.specs.Provided.{ProviderInfos}
use Rattle.pdb_function_info.specs.declared.function.Function.{Function}
use Rattle.pdb_functions.specs.GlobalFunctions.{GlobalFunction}
use Rattle.pdb_functions.specs.Procedures.{ModuleProcedure}
use Rattle.pdb_functions.specs.FunctionMatches.{FunctionMatch, found_procedure, found_global, next_global}
use Rattle.pdb_function_info.specs.NameTexts.{procedure_name, failed_by_name}

-- a function: its start, and its end and name as far as they are known
pub record FunctionInfo : Type 0 where
  pub start_rva : ℕ
  pub end_rva : Option ℕ
  pub name : Option (List ℕ)

-- the model of the code's `Function`
abbrev pub function_view : Function → FunctionInfo
function_view f = record { start_rva = f.start_rva; end_rva = f.end_rva; name = option_map string_bytes f.name }

-- the end of a global function: the start of the next one of its section, if there is one; no answer if that one has no
-- address
abbrev pub global_end : List AddressRange → Option GlobalFunction → Option (Option ℕ)
global_end sections None = Some None
global_end sections (Some next) = option_map (λ address. Some address.0) (rva sections next.start)

-- the sum, if it fits in 32 bits
abbrev pub sum_in_32_bits : ℕ → ℕ → Option ℕ
sum_in_32_bits a b = if nat_lt (a + b) (2 ^ 32) then Some (a + b) else None

-- the function info of a global function
abbrev pub info_of_global : List AddressRange → List GlobalFunction → GlobalFunction → Option FunctionInfo
info_of_global sections globals f =
    option_and_then (λ start.
    option_map (λ end. record { start_rva = start.0; end_rva = end; name = option_map lossy f.name })
    (global_end sections (next_global f.start globals))) (rva sections f.start)

-- the function info of a procedure with this name
abbrev pub info_of_procedure : List AddressRange → ModuleProcedure → Option (List ℕ) → Option FunctionInfo
info_of_procedure sections p name =
    option_map (λ start. record {
      start_rva = start.0;
      end_rva = sum_in_32_bits start.0 p.len;
      name = name;
    }) (rva sections p.offset)

-- the function info of the function that was found at a section offset
abbrev pub info_of : {P : Type 0} → (P → ProviderInfos) → TypeInputs P → List AddressRange → List GlobalFunction
    → FunctionMatch
    → Option FunctionInfo
info_of info type_inputs sections globals (found_global m f) = info_of_global sections globals f
info_of info type_inputs sections globals (found_procedure m p) =
    info_of_procedure sections p (procedure_name info type_inputs globals m p)

-- the parts that have failed after this function info: those by the name of a procedure with an address
abbrev pub failed_after_info : {P : Type 0} → (P → ProviderInfos) → TypeInputs P → List AddressRange
    → List GlobalFunction
    → FunctionMatch → Parts → Parts
failed_after_info info type_inputs sections globals (found_global m f) failed = failed
failed_after_info info type_inputs sections globals (found_procedure m p) failed =
    option_map_or (λ start. failed_by_name info type_inputs globals m p failed) (rva sections p.offset) failed
