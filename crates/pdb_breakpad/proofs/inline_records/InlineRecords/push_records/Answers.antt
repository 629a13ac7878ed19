-- The spans of all levels fit their types, since the records do that are made of them.
use Rattle.std.proofs.Common.{◌∙◌}
use Rattle.pdb_breakpad.specs.WrittenRecords.{FitsCall, FitsSpan}
use Rattle.pdb_breakpad.proofs.OnOkLemmas.{on_ok}
use Rattle.pdb_breakpad.proofs.WrittenRecordLemmas.{spans_hold}
use Rattle.pdb_breakpad.proofs.inline_records.InlineRecords.push_records.Goals as goal

pub returns-clause-fits : goal.returns-clause-fits
returns-clause-fits c =
    on_ok c.push_all.result c.push_all.ensures.fits
    (spans_hold (FitsSpan FitsCall) _ c.args.self.now c.in_ok-records.records.items c.deref.result.now
    c.in_ok-records.ensures.answer (c.deref.ensures.value ∙ c.in_ok-sort_by_key.ensures.state))
