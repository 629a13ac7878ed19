use Rattle.std.proofs.Common.{◌≡◌, drop, map}
use Rattle.std.specs.Prelude.{string_bytes}
use Rattle.serde_json.specs.View.{items_view}
use Rattle.pdb_json_records.proofs.ElementLemmas.{after}
use Rattle.pdb_json.specs.ModuleFiles.{module_file_names_from}
use Rattle.pdb_json.proofs.module_file_names.ModuleFileNamesFromJson.from_json.Given as goal

abbrev pub invariant-loop-number : goal.invariant-loop-number
invariant-loop-number l =
    module_file_names_from l.reader.version 0 (items_view l.values)
    ≡ after (map string_bytes l.names.items)
    (module_file_names_from l.reader.version l.number (items_view (drop l.number l.values)))
