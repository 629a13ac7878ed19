-- What is text is the text of its line, and else there is a question mark.
use Rattle.std.proofs.Common.{◌∙◌}
use Rattle.std.proofs.lemmas.Result.{IfOk-weaker}
use Rattle.pdb_symbolizer_lib.proofs.LineLemmas.{mark_for_no_text, text_is_its_own}
use Rattle.pdb_symbolizer_lib.proofs.line_queue.line_text.Goals as goal

pub returns-in-Ok : goal.returns-in-Ok
returns-in-Ok c =
    IfOk-weaker c.from_str.result _ _
    (λ text same. same ∙ c.in-Ok.ensures.cases.0 ∙ text_is_its_own c.args.bytes.now c.in-Ok.ensures.cases.1)
    c.from_str.ensures.ok

pub returns-in-Err : goal.returns-in-Err
returns-in-Err c =
    IfOk-weaker c.from_str-in-Err.result _ _
    (λ text same. same ∙ mark_for_no_text c.args.bytes.now c.in-Err.ensures.cases.0)
    c.from_str-in-Err.ensures.ok
