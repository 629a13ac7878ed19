-- The entries of the table are those that were read, and those of the bytes that are left.
use Rattle.std.proofs.Common.{◌≡◌, ◌++◌, ◌-◌, ◌*◌, drop}
use Rattle.pe_image.specs.NumbersAt.{entries}
use Rattle.pe_image.specs.ExceptionDirectory.{function_entry}
use Rattle.pe_image.proofs.exception_directory.entries_in.Given as goal

abbrev pub invariant-loop-position : goal.invariant-loop-position
invariant-loop-position l = entries function_entry 12 l.count l.bytes
    ≡ l.read.items ++ entries function_entry 12 (l.count - l.position) (drop (12 * l.position) l.bytes)
