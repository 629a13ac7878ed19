-- The function that the context over a part answers is that of one over all records.
use Rattle.std.proofs.Common.{◌∙◌, ap, sym}
use Rattle.pdb_records.specs.Records.{Records}
use Rattle.pdb_addr2line.specs.ContextInputs.{ContextState}
use Rattle.pdb_addr2line.specs.Lookups.{failed_after}
use Rattle.pdb_addr2line.specs.NamedFunctions.{named_function_at}
use Rattle.pdb_known.specs.Known.{infos_of}
use Rattle.pdb_session.proofs.PartLemmas.{named_function_as_all, same_over}
use Rattle.pdb_session.specs.Session.{ContextOverPart}
use Rattle.pdb_session.proofs.session_context.SessionContext.find_function.Goals as goal

pub returns-clause-answer : goal.returns-clause-answer
returns-clause-answer c = λ enough whole inputs is_part made.
    c.in-Ok.ensures.answer
    ∙ ap (λ (v : ContextOverPart). named_function_at infos_of v.state.inputs c.args.address) c.self.view_is
    ∙ named_function_as_all c.args.self.now.state.inputs inputs c.args.address
    (same_over _ c.args.self.now whole inputs c.args.address c.self.view_is c.self.invariant enough is_part made)

pub returns-clause-failed : goal.returns-clause-failed
returns-clause-failed c = λ whole inputs is_part made.
    let same = same_over _ c.args.self.now whole inputs c.args.address c.self.view_is c.self.invariant
    (sym c.needs.ensures ∙ c.if-needs.false) is_part made in (
      ap (λ (s : ContextState Records). s.failed) c.in-Ok.ensures.state
          ∙ ap (λ (v : ContextOverPart). failed_after infos_of v.state.inputs c.args.address v.state.failed)
          c.self.view_is ∙ same.failed_by_function c.args.self.now.state.failed,
      c.in-Ok.ensures.code_failed ∙ ap (λ (v : ContextOverPart). v.state.code_failed) c.self.view_is,
    )
