-- With the run that isn't read yet, and the blocks that are left, the bytes are those before and all blocks.
use Rattle.std.proofs.Common.{◌≡◌, ◌≤◌, ◌+◌, ◌*◌, ◌^◌, length, take}
use Rattle.pdb_msf.proofs.BlockLemmas.{Pending}
use Rattle.pdb_msf.specs.Streams.{blocks_end}
use Rattle.pdb_msf.proofs.block_reads.append_blocks.Given as goal

abbrev pub invariant-loop-number : goal.invariant-loop-number
invariant-loop-number g l = record {
  answer : Pending (g.S.Source.bytes l.fn.source) l.grid.block_size l.blocks l.initial.bytes.items l.number-index
      l.bytes.items l.run.start l.run.length;
  begins : take (length l.initial.bytes.items) l.bytes.items ≡ l.initial.bytes.items;
  length : length l.bytes.items + l.run.length ≡ length l.initial.bytes.items + l.number-index * l.grid.block_size;
  inputs : g.S.Source.bytes l.source ≡ g.S.Source.bytes l.fn.source;
  refusals : g.S.Source.refuses_from l.source ≡ g.S.Source.refuses_from l.fn.source;
  within : l.run.start + l.run.length ≤ blocks_end l.grid.block_size l.blocks;
  starts : l.run.start ≤ 2 ^ 47;
  short : l.run.length ≤ 163840;
}
