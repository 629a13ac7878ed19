-- The numbers are those that were copied, and those of the bytes that are left.
use Rattle.std.proofs.Common.{◌≡◌, ◌++◌, ◌-◌, ◌*◌, drop}
use Rattle.pdb_msf.specs.NumberLists.{numbers}
use Rattle.pdb_msf.proofs.number_lists.copy_numbers.Given as goal

abbrev pub invariant-loop-position : goal.invariant-loop-position
invariant-loop-position l =
    numbers l.count l.bytes ≡ l.copied.items ++ numbers (l.count - l.position) (drop (4 * l.position) l.bytes)
