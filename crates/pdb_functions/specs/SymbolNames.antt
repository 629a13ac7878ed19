-- The names of procedures by their symbols.
use Rattle.std.specs.Prelude.{◌≡◌, ⊤, ℕ, List, Option, Some, find, option_map, ◌==◌}
use Rattle.pdb_records.specs.declared.debug_information.Module.{Module}
use Rattle.pdb_records.specs.Provided.{ProviderInfos}
use Rattle.pdb_functions.specs.FunctionMatches.{procedures_of_module, FunctionMatch, found_procedure, found_global}
use Rattle.pdb_functions.specs.Procedures.{ModuleProcedure}

-- the name of the procedure with the symbol at this position
abbrev pub name_by_symbol : ℕ → List ModuleProcedure → Option (List ℕ)
name_by_symbol symbol procedures = option_map (λ p. p.name) (find (λ p. p.symbol_index.0 == symbol) procedures)

-- a procedure that was found has the name of its symbol
abbrev pub GoesBySymbol : ProviderInfos → List Module → FunctionMatch → Type 0
GoesBySymbol infos modules (found_procedure m p) =
    name_by_symbol p.symbol_index.0 (procedures_of_module infos modules m) ≡ Some p.name
GoesBySymbol infos modules (found_global m f) = ⊤
