-- All blocks lie in the file where those that are left do.
use Rattle.std.proofs.Common.{◌≡◌, ℕ, List, drop, length}
use Rattle.pdb_msf.specs.Streams.{all_inside}
use Rattle.pdb_msf.proofs.block_reads.BlockGrid.has_all.Given as goal

abbrev pub invariant-loop-number : goal.invariant-loop-number
invariant-loop-number l =
    (file : List ℕ) → length file ≡ l.self.file_length
    → all_inside l.self.block_size file l.blocks ≡ all_inside l.self.block_size file (drop l.number-index l.blocks)
