use Rattle.std.proofs.Common.{◌≡◌, ◌≤◌, ◌-◌, ℕ, [], vec_len}
use Rattle.pdb_inline.specs.DepthTables.{segments_at}
use Rattle.pdb_inline.proofs.depth_tables.no_segments.Given as goal

-- no depth so far has a segment
abbrev pub invariant-loop-alloc : goal.invariant-loop-alloc
invariant-loop-alloc l = record {
  count : vec_len l.all ≤ l.depths;
  none : (depth : ℕ) → segments_at l.all.items depth ≡ [];
}

-- how many depths are left
abbrev pub decreases-loop-alloc : goal.decreases-loop-alloc
decreases-loop-alloc l = l.depths - vec_len l.all
