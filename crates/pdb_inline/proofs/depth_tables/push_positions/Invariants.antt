use Rattle.std.proofs.Common.{◌≡◌, ◌≤◌, ◌++◌, length, drop}
use Rattle.pdb_inline.specs.DepthTables.{positions_in}
use Rattle.pdb_inline.proofs.depth_tables.push_positions.Given as goal

-- the positions so far, and those that what is left has, are those that there were and those that all have
abbrev pub invariant-loop-table : goal.invariant-loop-table
invariant-loop-table l = record {
  positions : l.positions.items ++ positions_in (drop l.table-index l.tables) l.x ≡ l.initial.positions.items
      ++ positions_in l.tables l.x;
  no_fewer : length l.initial.positions.items ≤ length l.positions.items;
}
