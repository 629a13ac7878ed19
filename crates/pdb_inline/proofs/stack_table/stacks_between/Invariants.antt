use Rattle.std.proofs.Common.{◌≡◌, ◌*◌, ◌≤◌, ℕ, [], drop, length}
use Rattle.std.specs.Prelude.{nat_lt, if◌then◌else◌}
use Rattle.pdb_inline.specs.DepthTables.{positions_in}
use Rattle.pdb_inline.specs.RangeBounds.{ChangesAt}
use Rattle.pdb_inline.specs.StackTable.{stack_over}
use Rattle.pdb_inline.proofs.stack_table.stacks_between.Given as goal

-- the numbers up to the last bound so far have their positions, and for each bound two segments were added at most
abbrev pub invariant-loop-bound : goal.invariant-loop-bound
invariant-loop-bound l = record {
  stacks : (x : ℕ) → stack_over l.table x ≡ (if nat_lt x l.at then positions_in l.tables x else []);
  changes : ChangesAt (positions_in l.tables) l.at (drop l.bound-index l.bounds);
  few : length l.table ≤ 2 * l.bound-index;
}
