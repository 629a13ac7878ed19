-- What was found goes by its symbol's name.
use Rattle.std.proofs.Common.{◌≡◌, ℕ, Option, Some, None, sym, subst}
use Rattle.std.specs.Prelude.{IfSome, option_and_then}
use Rattle.pdb_records.specs.Addresses.{internal_offset}
use Rattle.pdb_records.specs.declared.addresses.PdbInternalSectionOffset.{PdbInternalSectionOffset}
use Rattle.pdb_records.specs.Provided.{ProviderInfos}
use Rattle.pdb_functions.specs.FunctionMatches.{FunctionMatch, function_over}
use Rattle.pdb_functions.specs.SymbolNames.{GoesBySymbol}
use Rattle.pdb_functions.proofs.SymbolLemmas.{over_by_symbol}
use Rattle.pdb_addr2line.specs.Lookups.{found_at}
use Rattle.pdb_addr2line.specs.ContextInputs.{ContextInputs, contributions_of, global_functions_of}

-- what lies over a section offset
pub over_goes_by_symbol : {P : Type 0} (info : P → ProviderInfos) (s : ContextInputs P)
    (section_offset : PdbInternalSectionOffset) (found : FunctionMatch)
    → Some found ≡ function_over (info s.provider) s.type_inputs.modules (contributions_of s)
    (global_functions_of s) section_offset
    → GoesBySymbol (info s.provider) s.type_inputs.modules found
over_goes_by_symbol info s section_offset found is =
    subst (λ o. IfSome o (GoesBySymbol (info s.provider) s.type_inputs.modules)) (sym is)
    (over_by_symbol (info s.provider) s.type_inputs.modules (contributions_of s) (global_functions_of s) section_offset)

-- what lies over an address
pub at_goes_by_symbol : {P : Type 0} (info : P → ProviderInfos) (s : ContextInputs P) (address : ℕ)
    (found : FunctionMatch) → Some found ≡ found_at info s address
    → GoesBySymbol (info s.provider) s.type_inputs.modules found
at_goes_by_symbol info s address found is =
    subst (λ o. IfSome o (GoesBySymbol (info s.provider) s.type_inputs.modules)) (sym is)
    (of_section_offset (internal_offset s.address_map (record { 0 = address })))
  where
    of_section_offset : (section_offset : Option PdbInternalSectionOffset)
        → IfSome (option_and_then (function_over (info s.provider) s.type_inputs.modules (contributions_of s)
        (global_functions_of s)) section_offset) (GoesBySymbol (info s.provider) s.type_inputs.modules)
    of_section_offset None = tt
    of_section_offset (Some section_offset) = over_by_symbol (info s.provider) s.type_inputs.modules
        (contributions_of s) (global_functions_of s) section_offset
