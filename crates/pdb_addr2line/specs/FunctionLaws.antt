-- Laws on start addresses, in words of their own.
use Rattle.std.specs.Prelude.{◌≡◌, ◌⊎◌, ◌<◌, ℕ, List, [], ◌∷◌, Some, ⊤}
use Rattle.std.specs.List.{AllByRecursion, Contains}
use Rattle.pdb_records.specs.Addresses.{rva}
use Rattle.pdb_records.specs.Provided.{ProviderInfos}
use Rattle.pdb_functions.specs.GlobalFunctions.{GlobalFunction}
use Rattle.pdb_functions.specs.FunctionMatches.{procedures_of_module}
use Rattle.pdb_functions.specs.Procedures.{ModuleProcedure}
use Rattle.pdb_addr2line.specs.ContextInputs.{ContextInputs, global_functions_of}

-- the addresses ascend, without duplicates
abbrev pub Ascend : List ℕ → Type 0
Ascend [] = ⊤
Ascend (address ∷ addresses) = AllByRecursion (λ later. address < later) addresses × Ascend addresses

-- a global function starts at this address
pub record IsGlobalStart {P : Type 0} (s : ContextInputs P) (address : ℕ) : Type 0 where
  pub function : GlobalFunction
  pub listed : Contains (global_functions_of s) function
  pub at : rva s.address_map function.start ≡ Some (record { 0 = address })

-- a procedure of a module starts at this address
pub record IsProcedureStart {P : Type 0} (info : P → ProviderInfos) (s : ContextInputs P) (address : ℕ) : Type 0 where
  pub module_index : ℕ
  pub procedure : ModuleProcedure
  pub listed : Contains (procedures_of_module (info s.provider) s.type_inputs.modules module_index) procedure
  pub at : rva s.address_map procedure.offset ≡ Some (record { 0 = address })

-- a global function or a procedure of a module starts at this address
abbrev pub IsStart : {P : Type 0} → (P → ProviderInfos) → ContextInputs P → ℕ → Type 0
IsStart info s address = IsGlobalStart s address ⊎ IsProcedureStart info s address
