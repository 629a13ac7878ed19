use Rattle.std.proofs.Common.{◌≡◌, drop}
use Rattle.serde_json.specs.View.{items_view}
use Rattle.pdb_json_records.specs.Members.{all_from}
use Rattle.pdb_json_records.proofs.ElementLemmas.{after}
use Rattle.pdb_json_records.proofs.members.ElementsFromJson.from_json.Given as goal

abbrev pub invariant-loop-number : goal.invariant-loop-number
invariant-loop-number g l =
    all_from 0 (g.T.FromJson.read l.reader.version) (items_view l.values)
    ≡ after l.elements.items
    (all_from l.number (g.T.FromJson.read l.reader.version) (items_view (drop l.number l.values)))
