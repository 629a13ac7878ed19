-- What stands before the first zero begins with the bytes so far.
use Rattle.std.proofs.Common.{◌≡◌, ◌++◌, take, drop}
use Rattle.pdb_identity.specs.CodeView.{before_zero}
use Rattle.pdb_identity.proofs.code_view.before_zero.Given as goal

abbrev pub invariant-loop-position : goal.invariant-loop-position
invariant-loop-position l = before_zero l.bytes ≡ take l.position l.bytes ++ before_zero (drop l.position l.bytes)
