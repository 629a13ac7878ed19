-- The entries of the table are those that were read, and those of the bytes that are left.
use Rattle.std.proofs.Common.{◌≡◌, ◌++◌, ◌-◌, ◌*◌, drop}
use Rattle.pe_image.specs.NumbersAt.{entries}
use Rattle.pe_image.specs.Image.{data_directory}
use Rattle.pe_image.proofs.image.directories_in.Given as goal

abbrev pub invariant-loop-position : goal.invariant-loop-position
invariant-loop-position l = entries data_directory 8 l.count l.bytes
    ≡ l.read.items ++ entries data_directory 8 (l.count - l.position) (drop (8 * l.position) l.bytes)
