-- The flags so far, and those of the modules that are left, are all flags.
use Rattle.std.proofs.Common.{◌≡◌, ◌++◌, drop, map}
use Rattle.pdb_c.specs.FoundFrames.{flag_number}
use Rattle.pdb_c.proofs.part_openings.flags_of.Given as goal

abbrev pub invariant-loop-read : goal.invariant-loop-read
invariant-loop-read l =
    l.flags.items ++ map flag_number (drop l.read-index l.known.modules) ≡ map flag_number l.known.modules
