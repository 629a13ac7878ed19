use Rattle.std.proofs.Common.{◌∙◌}
use Rattle.std.proofs.lemmas.Map.Text.{btree_map_updates_str}
use Rattle.pdb_types.specs.ForwardReferences.{aggregate_view, size_under}
use Rattle.pdb_types.proofs.ForwardLemmas.{size_for-or}
use Rattle.pdb_types.proofs.forward_sizes.define.Goals as goal

pub returns-in-Ok : goal.returns-in-Ok
returns-in-Ok c = λ name.
    rw c.in-Some.is (rw c.bytes_of.ensures
    at (btree_map_updates_str c.bytes_of.result.now c.args.by_name.now c.insert.new.self _ c.in-Ok.ensures.updates
    name) ∙ size_for-or name (aggregate_view c.in-Some.defined) (size_under c.args.by_name.now name) c.if-defined.false)
