-- Calls leave the inputs of the context as they were.
use Rattle.std.proofs.Common.{◌∙◌, Ok, ap, sym}
use Rattle.pdb_records.specs.Records.{Records}
use Rattle.pdb_addr2line.specs.ContextInputs.{ContextState}
use Rattle.pdb_known.specs.Known.{infos_of}
use Rattle.pdb_session.proofs.CallLemmas.{inputs_stay, inputs_stay_early}
use Rattle.pdb_session.proofs.session_context.SessionContext.run_calls.Goals as goal

pub invariant_of-self : goal.invariant_of-self
invariant_of-self c =
    c.self.invariant ∙ ap Ok (sym (inputs_stay_early infos_of c.self.inside.context _ _ _ _ c.in-Err.ensures.early))

pub invariant_of-self-2 : goal.invariant_of-self-2
invariant_of-self-2 c =
    c.self.invariant ∙ ap Ok (sym (ap (λ (s : ContextState Records). s.inputs) c.in_default.ensures.state
    ∙ inputs_stay infos_of c.self.inside.context c.args.calls.now))
