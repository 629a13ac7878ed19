-- The lines after the first, whether they are ready or are read now.
use Rattle.std.proofs.Common.{◌≡◌, ◌+◌, ◌<◌, ◌≤◌, length, arith}
use Rattle.std.proofs.lemmas.Result.{on_ok_weaker}
use Rattle.std.specs.Io.Buffered.{reader_remaining}
use Rattle.pdb_symbolizer_lib.proofs.PassLemmas.{passes_to_read, passes_to_ready}
use Rattle.pdb_symbolizer_lib.proofs.line_queue.LineQueue.pass.Goals as goal

pub returns-then-self-len-clause-state : goal.returns-then-self-len-clause-state
returns-then-self-len-clause-state g c =
    let queue = c.self.inside in
    let next = c.saturating_add-self-inside.result in
    let further : next ≡ queue.next + 1 = omega arith in
    let ready : next < length queue.lines.items = omega arith in
    rw (← c.self.view_is)
    (passes_to_ready queue.lines.items queue.next next (reader_remaining g.T.Read.remaining queue.reader) further ready)

pub returns-clause-state : goal.returns-clause-state
returns-clause-state g c =
    let queue = c.self.inside in
    let few : length queue.lines.items ≤ queue.next + 1 = omega arith in
    rw (← c.self.view_is)
    (on_ok_weaker c.fill.result
    (passes_to_read queue.lines.items c.fill.new.lines.items queue.next
    (reader_remaining g.T.Read.remaining queue.reader) (reader_remaining g.T.Read.remaining c.fill.new.reader) few)
    c.fill.ensures.answer)
