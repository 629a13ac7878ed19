use Rattle.pdb_c.specs.CallError.{refusal_of_records}
use Rattle.std.proofs.Common.{refl}
use Rattle.pdb_report_lib.proofs.FileReportLemmas.{opened-accepted}
use Rattle.pdb_c.proofs.TextLemmas.{context_refused, stream_failed, matches}
use Rattle.pdb_c.proofs.report_texts.text_of_records.Goals as goal

pub returns-in_err-context_data : goal.returns-in_err-context_data
returns-in_err-context_data c =
    let error = c.in_err-context_data.field-0.0 in
    matches _ _ (refusal_of_records error) _ c.from_residual.ensures.1
    (context_refused c.args.command _ c.args.addresses.now error
    (λ other. stream_failed c.args.records error c.in_err-context_data.ensures.refused))

pub returns : goal.returns
returns c =
    let made = c.in_ok-context_data.ensures in
    rw (opened-accepted c.args.records c.in_ok-context_data.context_data _ made.answer
    made.refused refl) c.text_over.ensures
