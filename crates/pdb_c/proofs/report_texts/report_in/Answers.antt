use Rattle.std.proofs.Common.{Some, ap, refl}
use Rattle.pdb_c.specs.CallError.{refusal_of_report}
use Rattle.pdb_c.specs.Questions.{IsLeftWithText}
use Rattle.pdb_c.proofs.TextLemmas.{address_refused, text_gathered, matches, ends_with}
use Rattle.pdb_c.proofs.report_texts.report_in.Goals as goal

pub returns-in_err-report-clause-answer : goal.returns-in_err-report-clause-answer
returns-in_err-report-clause-answer c =
    let why = c.in_err-report.field-0.0 in
    matches _ _ (refusal_of_report why) _ c.from_residual.ensures.1
    (address_refused c.args.command c.args.context.now c.args.addresses.now _ _ why c.in_err-report.ensures.refused)

pub returns-in_err-report-clause-state : goal.returns-in_err-report-clause-state
returns-in_err-report-clause-state c =
    let why = c.in_err-report.field-0.0 in
    ends_with _ (refusal_of_report why)
    (λ r. IsLeftWithText r c.args.context.now c.report.new.context c.args.command c.args.addresses.now)
    c.from_residual.ensures.1 (record { fault = why; told = refl; left = c.in_err-report.ensures.early })

pub returns-clause-answer : goal.returns-clause-answer
returns-clause-answer c =
    text_gathered c.args.command c.args.context.now c.args.addresses.now _ _ _ _
    c.new-out.ensures (ap Some c.new.ensures.items) c.into_inner.ensures c.in_ok-report.ensures.text
