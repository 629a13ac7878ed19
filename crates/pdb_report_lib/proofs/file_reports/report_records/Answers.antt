use Rattle.std.proofs.Common.{refl}
use Rattle.pdb_report_lib.proofs.FileReportLemmas.{opened-accepted}
use Rattle.pdb_report_lib.proofs.file_reports.report_records.Goals as goal

pub returns-clause-text : goal.returns-clause-text
returns-clause-text g c =
    let made = c.in_ok-data.ensures in
    rw (opened-accepted c.args.records c.in_ok-data.data _ made.answer made.refused refl)
    c.report_data.ensures.text

pub returns-clause-refused : goal.returns-clause-refused
returns-clause-refused g c =
    let made = c.in_ok-data.ensures in
    rw (opened-accepted c.args.records c.in_ok-data.data _ made.answer made.refused refl)
    c.report_data.ensures.refused
