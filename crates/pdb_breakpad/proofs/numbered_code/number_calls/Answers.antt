-- One call more, and all of them.
use Rattle.std.proofs.Common.{◌+◌, arith, map, subst, sym, take}
use Rattle.pdb_breakpad.specs.ShownNames.{frame_text}
use Rattle.pdb_breakpad.specs.NumberedCode.{AreCalls}
use Rattle.pdb_breakpad.specs.ShownFrames.{calls_in}
use Rattle.pdb_breakpad.proofs.FunctionRecordLemmas.{all_calls, next_call}
use Rattle.pdb_breakpad.proofs.numbered_code.number_calls.Goals as goal

pub loop-level-preserved : goal.loop-level-preserved
loop-level-preserved c = (
  subst (λ calls. AreCalls c.number_call.new.numbers calls
      (take (c.loop-level.level + 1) (calls_in (map frame_text c.args.frames.now)))) (sym c.in_ok-push.ensures.items)
      (next_call c.loop-level.numbers c.number_call.new.numbers c.loop-level.calls.items c.args.frames.now
      c.loop-level.level c.in_ok-number_call.field-0 c.index-frames-level.result
      c.index-frames-level-in-loop-level.result
      (omega (arith, c.loop-level-test.true, c.saturating_sub-level-end.ensures)) c.index-frames-level.is
      c.index-frames-level-in-loop-level.is c.in_ok-number_call.ensures.state c.loop-level.invariant.0
      c.in_ok-number_call.ensures.answer),
  (
    (λ number name is. c.in_ok-number_call.ensures.state.0 number name (c.loop-level.invariant.1.0 number name is)),
    (λ number name is. c.in_ok-number_call.ensures.state.1 number name (c.loop-level.invariant.1.1 number name is)),
  ),
)

pub returns-clause-answer : goal.returns-clause-answer
returns-clause-answer c =
    subst (AreCalls c.loop-level.numbers c.loop-level.calls.items)
    (all_calls c.args.frames.now c.loop-level.level
    (omega (arith, c.loop-level-test.false, c.saturating_sub-level-end.ensures))) c.loop-level.invariant.0
