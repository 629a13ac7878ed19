use Rattle.std.proofs.Common.{◌≡◌, ◌≤◌}
use Rattle.std.specs.Iterator.Adapters.{enumerate_source, enumerate_count}
use Rattle.std.specs.Vec.Iter.{into_iter_items}
use Rattle.serde_json.specs.View.{items_view}
use Rattle.pdb_json_records.proofs.ElementLemmas.{after}
use Rattle.pdb_json.specs.ModuleFiles.{contents}
use Rattle.pdb_json.specs.ModuleInfoValues.{infos_from}
use Rattle.pdb_json.proofs.module_info_values.all_known.Given as goal

abbrev pub invariant-loop-number : goal.invariant-loop-number
invariant-loop-number l =
    let files = contents l.files in
    let number = enumerate_count l.number-iterator in
    let left = into_iter_items (enumerate_source l.number-iterator) in
    record {
      counted : l.done ≤ number;
      rest :
          infos_from l.reader.version files 0 0 (items_view l.fn.values.items)
          ≡ after l.infos.items (infos_from l.reader.version files number l.done (items_view left));
    }
