-- The repairs so far are those of the modules before this position, and those of the other modules are left.
use Rattle.std.proofs.Common.{◌≡◌, ℕ, [], length, nat_lt}
use Rattle.std.specs.Prelude.{if◌then◌else◌}
use Rattle.pdb_session.specs.UntoldRepairs.{kept_at, told_before}
use Rattle.pdb_session.proofs.untold_repairs.take_all.Given as goal

abbrev pub invariant-loop-position : goal.invariant-loop-position
invariant-loop-position l = record {
  told : l.told.items ≡ told_before (kept_at l.fn.kept) l.position;
  left : (other : ℕ) → kept_at l.kept other ≡ (if nat_lt other l.position then [] else kept_at l.fn.kept other);
  count : length l.kept ≡ length l.fn.kept;
}
