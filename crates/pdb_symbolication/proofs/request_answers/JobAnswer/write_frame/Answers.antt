-- What is written is the text that was made.
use Rattle.std.proofs.Common.{◌≡◌, ◌∙◌, ap, subst, ℕ, List, ◌++◌}
use Rattle.std.specs.Prelude.{◌==◌}
use Rattle.pdb_symbolication.specs.JsonObjects.{comma_before}
use Rattle.pdb_symbolication.specs.RequestAnswers.{frame_object, searched_by}
use Rattle.pdb_symbolication.specs.Writes.{Writes}
use Rattle.pdb_symbolication.proofs.WriteLemmas.{fails_amid, goes_first, goes_no_more}
use Rattle.pdb_symbolication.proofs.request_answers.JobAnswer.write_frame.Goals as goal

pub returns-in_err-write_comma : goal.returns-in_err-write_comma
returns-in_err-write_comma g c =
    let frame = frame_object (searched_by c.args.self) c.args.number c.args.frame in
    fails_amid c.from_residual.result c.from_residual.ensures.0
    (goes_no_more (goes_first (g.W.Write.contents c.args.out.now) (comma_before (c.args.number == 0) ++ frame)))

pub returns-in_err-push_frame : goal.returns-in_err-push_frame
returns-in_err-push_frame g c =
    let frame = frame_object (searched_by c.args.self) c.args.number c.args.frame in
    fails_amid c.from_residual-in_err-push_frame.result c.from_residual-in_err-push_frame.ensures.0
    (goes_no_more (goes_first (g.W.Write.contents c.args.out.now) (comma_before (c.args.number == 0) ++ frame)))

pub returns : goal.returns
returns g c =
    let comma = comma_before (c.args.number == 0) in
    let frame = frame_object (searched_by c.args.self) c.args.number c.args.frame in
    let before = c.in_ok-write_comma.ensures ∙ ap (λ (text : List ℕ). text ++ comma) c.clear.ensures.bytes in
    let made : c.as_bytes.result.now ≡ comma ++ frame =
    c.as_bytes.ensures.value ∙ (c.in_ok-push_frame.ensures ∙ ap (λ (text : List ℕ). text ++ frame) before) in
    subst (λ (text : List ℕ). Writes (g.W.Write.contents c.args.out.now) (g.W.Write.contents c.write_whole.new.out)
    c.write_whole.result text) made c.write_whole.ensures
