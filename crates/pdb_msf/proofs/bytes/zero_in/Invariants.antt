-- The first zero of all bytes is that of those that are left.
use Rattle.std.proofs.Common.{◌≡◌, ◌==◌, drop}
use Rattle.std.specs.List.{position_from}
use Rattle.pdb_msf.proofs.bytes.zero_in.Given as goal

abbrev pub invariant-loop-position : goal.invariant-loop-position
invariant-loop-position l =
    position_from (λ byte. byte == 0) 0 l.bytes ≡ position_from (λ byte. byte == 0) l.position (drop l.position l.bytes)
