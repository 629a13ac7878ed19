use Rattle.pdb_c.specs.CallError.{refusal_of_records}
use Rattle.pdb_c.proofs.TextLemmas.{context_refused, text_of_fresh, matches}
use Rattle.pdb_c.proofs.report_texts.text_over.Goals as goal

pub returns-in_err-context : goal.returns-in_err-context
returns-in_err-context c =
    let error = c.in_err-context.field-0.0 in
    matches _ _ (refusal_of_records error) _ c.from_residual.ensures.1
    (context_refused c.args.command _ c.args.addresses.now error c.in_err-context.ensures.answer)

pub returns : goal.returns
returns c =
    rw (text_of_fresh c.args.command _ c.in_ok-context.context c.args.addresses.now c.in_ok-context.ensures.answer
    c.in_ok-context.ensures.failed.0 c.in_ok-context.ensures.failed.1) c.report_in.ensures.answer
