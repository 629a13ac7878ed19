-- The entries of the table are those that were read, and those of the bytes that are left.
use Rattle.std.proofs.Common.{◌≡◌, ◌++◌, ◌-◌, ◌*◌, drop}
use Rattle.pe_image.specs.NumbersAt.{entries}
use Rattle.pe_image.specs.Arm64Directory.{arm64_entry}
use Rattle.pe_image.proofs.arm64_directory.arm64_entries_in.Given as goal

abbrev pub invariant-loop-position : goal.invariant-loop-position
invariant-loop-position l = entries arm64_entry 8 l.count l.bytes
    ≡ l.read.items ++ entries arm64_entry 8 (l.count - l.position) (drop (8 * l.position) l.bytes)
