use Rattle.std.proofs.lemmas.Result.{err_from_is_err_and}
use Rattle.pdb_json_values.proofs.FaultLemmas.{fault_ends}
use Rattle.pdb_json.specs.RecordsFile.{records_in_version}
use Rattle.pdb_json.proofs.records_file.file_records.Goals as goal

pub returns-in_err-known : goal.returns-in_err-known
unfolding records_in_version
returns-in_err-known c =
    let p = err_from_is_err_and c.from_residual-in_err-known.result c.from_residual-in_err-known.ensures.1 in
    rw (p.1, p.2, c.in_ok-records.ensures) (fault_ends _ _ _ c.in_err-known.ensures)
