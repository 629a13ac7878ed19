use Rattle.std.proofs.Common.{arith}
use Rattle.pdb_types.specs.ItemMap.{index_number}
use Rattle.pdb_types.proofs.AscendingLemmas.{ascends_none}
use Rattle.pdb_types.proofs.CachedLemmas.{knows_nothing}
use Rattle.pdb_types.proofs.item_map.ItemMap.new.Goals as goal

pub invariant_of-result : goal.invariant_of-result
invariant_of-result g c =
    let number_of = index_number g.I.ItemIndex.number_of in
    (omega arith, ascends_none number_of, omega arith, knows_nothing number_of _ c.new.ensures.empty)
