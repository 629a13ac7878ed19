-- The bytes of all blocks are those of the file from the first block's start to the end of the last one that was looked
-- at, and those of the blocks that are left; up to that end the blocks lie in the file if the file is so long.
use Rattle.std.proofs.Common.{◌≡◌, ◌≤◌, ◌-◌, ◌++◌, drop, length, take}
use Rattle.pdb_msf.specs.Streams.{all_inside, bytes_of_blocks}
use Rattle.pdb_msf.proofs.streams.in_place.Given as goal

abbrev pub invariant-loop-number : goal.invariant-loop-number
invariant-loop-number l =
    (l.start ≤ l.end)
    × (bytes_of_blocks l.block_size l.file l.blocks
    ≡ take (l.end - l.start) (drop l.start l.file) ++ bytes_of_blocks l.block_size l.file (drop l.number-index l.blocks))
    × (l.end ≤ length l.file
    → all_inside l.block_size l.file l.blocks ≡ all_inside l.block_size l.file (drop l.number-index l.blocks))
