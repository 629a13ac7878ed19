use Rattle.pdb_tables.proofs.CoversLemmas.{covers_iff}
use Rattle.pdb_tables.proofs.range_set.RangeSet.is_superset.Goals as goal

pub returns : goal.returns
returns c =
    rw (c.covers.ensures, c.deref.ensures.value, c.deref-2.ensures.value, ← c.self.view_is, ← c.other.view_is)
    (covers_iff 0 0 _ _ c.self.invariant c.other.invariant)
