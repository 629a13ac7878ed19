-- What was read and what is left is all that was asked for, at each way out of the loop.
use Rattle.std.proofs.Common.{◌<◌, length, arith}
use Rattle.std.specs.Io.Buffered.{reader_remaining}
use Rattle.pdb_symbolizer_lib.proofs.ReadLemmas.{reads_line, reads_none, reads_ready}
use Rattle.pdb_symbolizer_lib.proofs.line_queue.fill.Goals as goal

pub loop-init : goal.loop-init
loop-init g c = record {
  read = rw c.clear.ensures.items (reads_none (reader_remaining g.T.Read.remaining c.args.reader.now));
  some = omega arith;
}

pub loop-preserved : goal.loop-preserved
loop-preserved g c = record {
  read = reads_line (reader_remaining g.T.Read.remaining c.args.reader.now)
      (reader_remaining g.T.Read.remaining c.loop.reader) (reader_remaining g.T.Read.remaining c.read_line.new.reader)
      c.loop.lines.items c.push.new.self.items c.in-Some.line c.in_ok-push.ensures.items c.loop.invariant.read
      (rw c.in-Some.is at c.in_ok-line.ensures.answer);
  some = omega (arith, c.in_ok-push.ensures.len, c.loop.invariant.some);
}

pub returns-clause-answer : goal.returns-clause-answer
returns-clause-answer g c =
    let some : 0 < length c.loop.lines.items = omega (arith, c.loop.invariant.some) in
    reads_ready (reader_remaining g.T.Read.remaining c.args.reader.now)
    (reader_remaining g.T.Read.remaining c.loop.reader) c.loop.lines.items some c.loop.invariant.read

pub returns-then-not-contains-clause-answer : goal.returns-then-not-contains-clause-answer
returns-then-not-contains-clause-answer g c =
    let some : 0 < length c.push.new.self.items = omega (arith, c.in_ok-push.ensures.len) in
    reads_ready (reader_remaining g.T.Read.remaining c.args.reader.now)
    (reader_remaining g.T.Read.remaining c.read_line.new.reader) c.push.new.self.items some
    (reads_line (reader_remaining g.T.Read.remaining c.args.reader.now)
    (reader_remaining g.T.Read.remaining c.loop.reader) (reader_remaining g.T.Read.remaining c.read_line.new.reader)
    c.loop.lines.items c.push.new.self.items c.in-Some.line c.in_ok-push.ensures.items c.loop.invariant.read
    (rw c.in-Some.is at c.in_ok-line.ensures.answer))
