use Rattle.std.proofs.Common.{◌≡◌, ◌++◌, ℕ, map, drop, None}
use Rattle.pdb_tables.specs.Segments.{value_at, painted_in_turn}
use Rattle.pdb_inline.proofs.depth_tables.tables_of.Given as goal

-- the values of the tables so far, and what is left would give, are those of all
abbrev pub invariant-loop-segments : goal.invariant-loop-segments
invariant-loop-segments l = (x : ℕ) →
    map (λ table. value_at table x) l.tables.items ++ map (λ list. painted_in_turn list.items None x)
    (drop l.segments-index l.lists)
    ≡ map (λ list. painted_in_turn list.items None x) l.lists
