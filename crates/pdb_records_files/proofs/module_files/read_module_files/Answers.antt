use Rattle.std.proofs.Common.{map, string_bytes, Contains}
use Rattle.std.proofs.lemmas.Result.{err_from_is_err_and}
use Rattle.serde_json.specs.View.{view}
use Rattle.pdb_records_files.proofs.PathLemmas.{Contains-map, module_stops_the_read}
use Rattle.pdb_records_files.proofs.module_files.read_module_files.Goals as goal

pub returns-in_err-bytes : goal.returns-in_err-bytes
returns-in_err-bytes g c =
    let p = err_from_is_err_and c.from_residual.result c.from_residual.ensures.1 in
    let among : Contains (map string_bytes c.in-Ok.names.items) c.as_str.result.now =
    rw (c.as_str.ensures.value, ← c.deref-name-items.ensures.value)
    (Contains-map string_bytes _ _ _ c.loop-name-test.true c.name-item.is) in
    rw (p.1, p.2)
    (module_stops_the_read _ _ _ (view c.args.file.now.value) c.in_err-bytes.field-0.0 c.in-Ok.ensures among
    c.in_err-bytes.ensures)
