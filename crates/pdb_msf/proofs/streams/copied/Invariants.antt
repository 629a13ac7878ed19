-- The bytes of all blocks are those that were copied, and those of the blocks that are left; all blocks lie in the file
-- where those that are left do.
use Rattle.std.proofs.Common.{◌≡◌, ◌++◌, drop}
use Rattle.pdb_msf.specs.Streams.{all_inside, bytes_of_blocks}
use Rattle.pdb_msf.proofs.streams.copied.Given as goal

abbrev pub invariant-loop-number : goal.invariant-loop-number
invariant-loop-number l =
    (bytes_of_blocks l.block_size l.file l.blocks
    ≡ l.bytes.items ++ bytes_of_blocks l.block_size l.file (drop l.number-index l.blocks))
    × (all_inside l.block_size l.file l.blocks ≡ all_inside l.block_size l.file (drop l.number-index l.blocks))
