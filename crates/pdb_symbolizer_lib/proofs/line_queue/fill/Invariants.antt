-- The lines that were read, and what is left, are all that was asked for; each turn reads a line.
use Rattle.std.proofs.Common.{◌≤◌, length}
use Rattle.std.specs.Io.Buffered.{reader_remaining}
use Rattle.std.specs.Prelude.{IfSome}
use Rattle.pdb_symbolizer_lib.proofs.ReadLemmas.{Reads}
use Rattle.pdb_symbolizer_lib.proofs.line_queue.fill.Given as goal

abbrev pub invariant-loop : goal.invariant-loop
invariant-loop g l = record {
  read : IfSome (reader_remaining g.T.Read.remaining l.fn.reader)
      (λ bytes. Reads bytes (reader_remaining g.T.Read.remaining l.reader) l.lines.items);
  some : l.counter ≤ length l.lines.items;
}
