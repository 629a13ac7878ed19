-- So many modules without repairs were counted.
use Rattle.std.proofs.Common.{◌≡◌, length}
use Rattle.pdb_session.proofs.untold_repairs.no_repairs.Given as goal

abbrev pub invariant-loop : goal.invariant-loop
invariant-loop l = length l.kept.items ≡ l.counter
