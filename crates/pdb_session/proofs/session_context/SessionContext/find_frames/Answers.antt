-- What the context over a part answers is what one over all records does.
use Rattle.std.proofs.Common.{◌∙◌, ap, sym}
use Rattle.pdb_addr2line.specs.Lookups.{code_failed_after, failed_after_frames}
use Rattle.pdb_addr2line.specs.NamedFunctions.{named_frames_answered}
use Rattle.pdb_known.specs.Known.{infos_of}
use Rattle.pdb_session.proofs.PartLemmas.{named_as_all, code_failed_as_all, same_over}
use Rattle.pdb_session.specs.Session.{ContextOverPart}
use Rattle.pdb_session.proofs.session_context.SessionContext.find_frames.Goals as goal

pub returns-clause-answer : goal.returns-clause-answer
returns-clause-answer c = λ enough whole inputs is_part made.
    sym (named_as_all c.args.self.now.state inputs c.args.address
    (same_over _ c.args.self.now whole inputs c.args.address c.self.view_is c.self.invariant enough is_part made))
    ∙ ap (λ (v : ContextOverPart). named_frames_answered infos_of v.state c.args.address) (sym c.self.view_is)
    ∙ c.in-Ok.ensures.answer

pub returns-in-Err-clause-answer : goal.returns-in-Err-clause-answer
returns-in-Err-clause-answer c = λ enough whole inputs is_part made other.
    sym (named_as_all c.args.self.now.state inputs c.args.address
    (same_over _ c.args.self.now whole inputs c.args.address c.self.view_is c.self.invariant enough is_part made))
    ∙ ap (λ (v : ContextOverPart). named_frames_answered infos_of v.state c.args.address) (sym c.self.view_is)
    ∙ c.in-Err.ensures.answer other

pub returns-clause-failed : goal.returns-clause-failed
returns-clause-failed c = λ enough whole inputs is_part made.
    let same = same_over _ c.args.self.now whole inputs c.args.address c.self.view_is c.self.invariant enough is_part
    made in (
      c.in-Ok.ensures.failed
          ∙ ap (λ (v : ContextOverPart). failed_after_frames infos_of v.state.inputs c.args.address v.state.failed)
          c.self.view_is ∙ same.failed c.args.self.now.state.failed,
      c.in-Ok.ensures.code_failed
          ∙ ap (λ (v : ContextOverPart). code_failed_after infos_of v.state c.args.address) c.self.view_is
          ∙ code_failed_as_all c.args.self.now.state inputs c.args.address same,
    )

pub returns-in-Err-clause-failed : goal.returns-in-Err-clause-failed
returns-in-Err-clause-failed c = λ enough whole inputs is_part made other.
    let same = same_over _ c.args.self.now whole inputs c.args.address c.self.view_is c.self.invariant enough is_part
    made in (
      c.in-Err.ensures.failed other
          ∙ ap (λ (v : ContextOverPart). failed_after_frames infos_of v.state.inputs c.args.address v.state.failed)
          c.self.view_is ∙ same.failed c.args.self.now.state.failed,
      c.in-Err.ensures.code_failed other
          ∙ ap (λ (v : ContextOverPart). code_failed_after infos_of v.state c.args.address) c.self.view_is
          ∙ code_failed_as_all c.args.self.now.state inputs c.args.address same,
    )
