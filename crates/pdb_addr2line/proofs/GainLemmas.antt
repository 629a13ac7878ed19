-- The parts that failed grow by broken ones alone.
use Rattle.std.proofs.Common.{◌≡◌, ◌∙◌, ℕ, List, [], ◌∷◌, ◌++◌, refl}
use Rattle.std.specs.List.{AllByRecursion}
use Rattle.std.specs.Prelude.{Result, Ok, Err, OnOk}
use Rattle.pdb_types.specs.FailedParts.{Parts}
use Rattle.pdb_types.specs.TypeInputs.{TypeInputs}
use Rattle.pdb_records.specs.Provided.{ProviderInfos}
use Rattle.pdb_types.specs.declared.read_error.Part.{Part}
use Rattle.pdb_type_texts.specs.BrokenParts.{IsBroken}
use Rattle.pdb_type_texts.specs.PrintInputs.{formatter_inputs}
use Rattle.pdb_type_texts.proofs.MetLemmas.{with_parts-append}
use Rattle.pdb_addr2line.specs.FunctionIter.{OnlyGainsBroken}
use Rattle.pdb_function_info.specs.NameTexts.{GainsBroken, GainsBrokenParts, IsBrokenForSome}
use Rattle.pdb_addr2line.specs.ContextInputs.{ContextState}

-- what holds of all of two lists holds of all of both together
all_of_both : (holds : Part → Type 0) (first second : List Part) → AllByRecursion holds first
    → AllByRecursion holds second → AllByRecursion holds (first ++ second)
all_of_both holds [] second all_first all_second = all_second
all_of_both holds (part ∷ first) second all_first all_second =
    (all_first.0, all_of_both holds first second all_first.1 all_second)

-- parts that are broken for one module that asks are broken for some
broken_for_some : {P : Type 0} (info : P → ProviderInfos) (type_inputs : TypeInputs P) (module_index : ℕ)
    (parts : List Part)
    → AllByRecursion (IsBroken (formatter_inputs info type_inputs module_index)) parts
    → AllByRecursion (IsBrokenForSome info type_inputs) parts
broken_for_some info type_inputs module_index [] all = all
broken_for_some info type_inputs module_index (part ∷ parts) all =
    ((module_index, all.0), broken_for_some info type_inputs module_index parts all.1)

-- parts grow by broken ones alone in two steps, where they do in each
pub gains_twice : {P : Type 0} (info : P → ProviderInfos) (type_inputs : TypeInputs P) (old between new : Parts)
    → GainsBrokenParts info type_inputs old between → GainsBrokenParts info type_inputs between new
    → GainsBrokenParts info type_inputs old new
gains_twice info type_inputs old between new first second = record {
  added = first.added ++ second.added;
  broken = all_of_both (IsBrokenForSome info type_inputs) first.added second.added first.broken second.broken;
  is = rw (second.is, first.is) (with_parts-append old first.added second.added);
}

-- a context only gains broken parts, where one module that asked met them
pub gains_by_one : {P : Type 0} (info : P → ProviderInfos) (before after : ContextState P)
    → after.inputs ≡ before.inputs
    → GainsBroken info before.inputs.type_inputs before.failed after.failed → after.code_failed ≡ before.code_failed
    → OnlyGainsBroken info before after
gains_by_one info before after inputs gains code = record {
  inputs = inputs;
  broken = record {
    added = gains.1.added;
    broken = broken_for_some info before.inputs.type_inputs gains.0 gains.1.added gains.1.broken;
    is = gains.1.is;
  };
  code_failed = code;
}

-- a context in which these parts failed, and nothing else changed
pub state_with_failed : {P A E : Type 0} (before after : ContextState P) (failed : Parts) (answer : Result A E)
    → after.inputs ≡ before.inputs → OnOk answer (after.failed ≡ failed) → after.code_failed ≡ before.code_failed
    → OnOk answer (after ≡ record before { failed = failed })
state_with_failed before after failed (Ok found) inputs are code =
    λ i. record { inputs = inputs i; failed = are i; code_failed = code i }
state_with_failed before after failed (Err e) inputs are code = tt

-- a context that stays as it is gains none
pub gains_none : {P : Type 0} (info : P → ProviderInfos) (before after : ContextState P) → after ≡ before
    → OnlyGainsBroken info before after
gains_none info before after same = rw same (record {
  inputs = refl;
  broken = record { added = []; broken = tt; is = refl };
  code_failed = refl;
})

-- a context only gains broken parts in two steps, where it does in each
pub gains_after : {P : Type 0} (info : P → ProviderInfos) (before between after : ContextState P)
    → OnlyGainsBroken info before between → OnlyGainsBroken info between after → OnlyGainsBroken info before after
gains_after info before between after first second = record {
  inputs = second.inputs ∙ first.inputs;
  broken = gains_twice info before.inputs.type_inputs before.failed between.failed after.failed first.broken
      (rw first.inputs at second.broken);
  code_failed = second.code_failed ∙ first.code_failed;
}
