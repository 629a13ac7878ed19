-- The places are those that were listed, and those of the streams that are left; each stream has few blocks.
use Rattle.std.proofs.Common.{◌≡◌, ◌≤◌, ◌+◌, ◌*◌, ◌++◌, length, drop}
use Rattle.pdb_msf.specs.Directory.{extents}
use Rattle.pdb_msf.proofs.directory.list_extents.Given as goal

abbrev pub invariant-loop-size : goal.invariant-loop-size
invariant-loop-size l =
    (extents l.block_size (4 + 4 * length l.sizes) l.sizes
    ≡ l.extents.items ++ extents l.block_size l.numbers (drop l.size-index l.sizes))
    × (l.numbers ≤ 4 + 4 * length l.sizes + l.size-index * 33554432)
