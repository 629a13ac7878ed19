use Rattle.pdb_types.proofs.CachedLemmas.{knows_nothing, knows_more}
use Rattle.pdb_types.proofs.cached_entries.cache_all.Goals as goal

pub loop-entry-init : goal.loop-entry-init
loop-entry-init g c = knows_nothing g.T.Numbered.number_of _ c.new-known.ensures.empty

pub loop-entry-preserved : goal.loop-entry-preserved
loop-entry-preserved g c =
    knows_more g.T.Numbered.number_of _ _ _ _ _ c.loop-entry-test.true c.entry-item.is
    c.loop-entry.invariant c.in_ok-insert_first.ensures.state
