-- The chunks are those that were listed and those among the symbols that are left.
use Rattle.std.proofs.Common.{◌≡◌, ◌++◌, drop}
use Rattle.pdb_codeview.specs.Chunks.{chunks_among}
use Rattle.pdb_codeview.proofs.chunks.listed_chunks.Given as goal

abbrev pub invariant-loop-symbol : goal.invariant-loop-symbol
invariant-loop-symbol l =
    chunks_among l.symbols ≡ l.chunks.items ++ chunks_among (drop l.symbol-index l.symbols)
