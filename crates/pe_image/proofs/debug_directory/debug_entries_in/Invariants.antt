-- The entries of the table are those that were read, and those of the bytes that are left.
use Rattle.std.proofs.Common.{◌≡◌, ◌++◌, ◌-◌, ◌*◌, drop}
use Rattle.pe_image.specs.NumbersAt.{entries}
use Rattle.pe_image.specs.DebugDirectory.{debug_entry}
use Rattle.pe_image.proofs.debug_directory.debug_entries_in.Given as goal

abbrev pub invariant-loop-position : goal.invariant-loop-position
invariant-loop-position l = entries debug_entry 28 l.count l.bytes
    ≡ l.read.items ++ entries debug_entry 28 (l.count - l.position) (drop (28 * l.position) l.bytes)
