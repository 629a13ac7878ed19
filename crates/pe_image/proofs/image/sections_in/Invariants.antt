-- The entries of the table are those that were read, and those of the bytes that are left.
use Rattle.std.proofs.Common.{◌≡◌, ◌++◌, ◌-◌, ◌*◌, drop}
use Rattle.pe_image.specs.NumbersAt.{entries}
use Rattle.pe_image.specs.Image.{section_header}
use Rattle.pe_image.proofs.image.sections_in.Given as goal

abbrev pub invariant-loop-position : goal.invariant-loop-position
invariant-loop-position l = entries section_header 40 l.count l.bytes
    ≡ l.read.items ++ entries section_header 40 (l.count - l.position) (drop (40 * l.position) l.bytes)
