-- What is written, and the bytes that are left, are all that was to be written.
use Rattle.pdb_symbolication.proofs.WriteLemmas.{Goes}
use Rattle.pdb_symbolication.proofs.whole_writes.write_whole.Given as goal

abbrev pub invariant-loop : goal.invariant-loop
invariant-loop g l = Goes (g.W.Write.contents l.fn.out) (g.W.Write.contents l.out) l.rest l.fn.bytes
