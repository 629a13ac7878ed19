use Rattle.std.proofs.Common.{inl, inr}
use Rattle.serde_json.specs.View.{view}
use Rattle.pdb_report_lib.proofs.RunLemmas.{text_stops_the_run, module_files_stop_the_run}
use Rattle.pdb_report_lib.proofs.RunLemmas.{ends_over_text, run_ends_over_value}
use Rattle.pdb_report_lib.proofs.report_runs.run.Goals as goal

pub returns-in-Err : goal.returns-in-Err
returns-in-Err g c =
    let asked = rw c.in-Some.is at c.in-Ok.ensures in
    rw (← asked) (inl (text_stops_the_run _ _ c.deref.result.now c.in-Err.fault c.in-Err.ensures))

pub returns-in-Err-read_module_files : goal.returns-in-Err-read_module_files
returns-in-Err-read_module_files g c =
    let asked = rw c.in-Some.is at c.in-Ok.ensures in
    let value = view c.in-Ok-from_slice.file.value in
    rw (← asked)
    (module_files_stop_the_run _ _ _ _ value c.module_stop.result c.in-Ok-from_slice.ensures
    (c.module_stop.ensures value c.in-Err-read_module_files.ensures))

pub returns-in-Ok-flush : goal.returns-in-Ok-flush
returns-in-Ok-flush g c =
    let asked = rw c.in-Some.is at c.in-Ok.ensures in
    rw (← asked)
    (run_ends_over_value _ _ _ _ _ _ _ c.report_file-ended.result c.in-Ok-from_slice.ensures c.report_file-ended.ensures
    c.flush.ensures.held c.in-Ok-flush.ensures.unchanged)

pub returns : goal.returns
returns g c =
    let asked = rw c.in-Some.is at c.in-Ok.ensures in
    let over = ends_over_text _ _ _ _ _ _ c.report_file-ended.result c.in-Ok-from_slice.ensures
    c.report_file-ended.ensures in
    rw (← asked)
    (inr (record {
      bytes = c.deref.result.now;
      files = _;
      written = _;
      ended = c.report_file-ended.result;
      ends = over;
      same = c.flush.ensures.held;
      failed = c.in-Err-flush.ensures.refused;
    }))
