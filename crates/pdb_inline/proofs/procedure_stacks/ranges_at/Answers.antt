use Rattle.std.proofs.Common.{get_or, Some, None}
use Rattle.std.proofs.lemmas.List.{append-nil}
use Rattle.pdb_tables.proofs.ElementLemmas.{got_at}
use Rattle.pdb_inline.proofs.StackLemmas.{ranges_at_step}
use Rattle.pdb_inline.proofs.procedure_stacks.ranges_at.Goals.{in-Some+in_ok-push, in_default}
use Rattle.pdb_inline.proofs.procedure_stacks.ranges_at.Goals as goal

pub loop-position-preserved : goal.loop-position-preserved
loop-position-preserved c =
    let i = c.loop-position.position-index in
    let p = get_or c.args.positions.now i 0 in
    let step = ranges_at_step c.loop-position.found.items c.args.ranges.now _ c.args.positions.now i 0
    c.loop-position-test.true
    c.loop-position.invariant in
    elim c.match-get.branch [
      | in-Some+in_ok-push w ↦
          let got = got_at (Some w.in-Some.range) c.args.ranges.now p w.in-Some.ensures.lookup.0
          w.in-Some.ensures.lookup.1 in
          rw (w.found-is, w.in_ok-push.ensures.items) (rw (← got) at step)
      | in_default w ↦
          let got = got_at None c.args.ranges.now p w.in_default.ensures.lookup.0 w.in_default.ensures.lookup.1 in
          rw w.found-is (rw (← got, append-nil c.loop-position.found.items) at step)
    ]
