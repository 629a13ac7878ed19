use Rattle.std.proofs.Common.{◌≡◌, Ok}
use Rattle.std.proofs.lemmas.Result.{IfErr-weaker}
use Rattle.pdb_addr2line.specs.ContextData.{default_flags, context_of}
use Rattle.pdb_report_lib.proofs.FileReportLemmas.{ends_amid}
use Rattle.pdb_report_lib.proofs.file_reports.report_data.Goals as goal

pub returns-clause-text : goal.returns-clause-text
returns-clause-text g c =
    let made : context_of default_flags c.args.context_data.now ≡ Ok c.in_ok-context.context.inputs =
    c.in_ok-context.ensures.answer in
    rw made (rw (c.deref.ensures.value, c.in_ok-context.ensures.failed.1) at c.report.ensures.text)

pub returns-clause-refused : goal.returns-clause-refused
returns-clause-refused g c =
    let made : context_of default_flags c.args.context_data.now ≡ Ok c.in_ok-context.context.inputs =
    c.in_ok-context.ensures.answer in
    rw made (IfErr-weaker _ _ _ (ends_amid _ _ _ _ _)
    (rw (c.deref.ensures.value, c.in_ok-context.ensures.failed.1) at c.report.ensures.refused))
