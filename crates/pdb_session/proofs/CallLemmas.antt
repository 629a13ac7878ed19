-- What a list of calls leaves of a context.
use Rattle.std.proofs.Common.{◌≡◌, ◌∙◌, List, [], ◌∷◌, refl}
use Rattle.pdb_records.specs.Provided.{ProviderInfos}
use Rattle.pdb_addr2line.specs.declared.calls.Answer.{Answer}
use Rattle.pdb_addr2line.specs.declared.calls.Call.{Call}
use Rattle.pdb_addr2line.specs.Calls.{StopsEarly, after_call, after_calls}
use Rattle.pdb_addr2line.specs.ContextInputs.{ContextState}
use Rattle.pdb_addr2line.proofs.CallLemmas.{same_inputs}

-- calls leave a context's inputs unchanged
pub inputs_stay : {P : Type 0} (info : P → ProviderInfos) (c : ContextState P) (calls : List Call)
    → (after_calls info c calls).inputs ≡ c.inputs
inputs_stay info c [] = refl
inputs_stay info c (call ∷ calls) = inputs_stay info (after_call info c call) calls ∙ same_inputs info c call

-- and so do calls that end early
pub inputs_stay_early : {P : Type 0} (info : P → ProviderInfos) (c after : ContextState P) (calls : List Call)
    (answers answers' : List Answer) → StopsEarly info c calls answers answers' after → after.inputs ≡ c.inputs
inputs_stay_early info c after calls answers answers' early =
    early.unmade_gains.inputs ∙ inputs_stay info c early.made
