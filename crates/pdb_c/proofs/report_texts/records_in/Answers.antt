use Rattle.std.proofs.Common.{ap}
use Rattle.pdb_c.specs.CallError.{refusal_of, refusal_of_fault}
use Rattle.pdb_c.specs.ReportTexts.{with_refusal}
use Rattle.pdb_c.proofs.TextLemmas.{fault_shown, matches}
use Rattle.pdb_c.proofs.report_texts.records_in.Goals as goal

pub returns-in_err-records : goal.returns-in_err-records
returns-in_err-records c =
    let fault = c.in_err-records.field-0.0 in
    matches _ _ (refusal_of_fault fault) _ c.from_residual.ensures.1 (fault_shown fault _ c.in_err-records.ensures)

pub returns : goal.returns
returns c = ap (with_refusal refusal_of) c.in_ok-records.ensures
