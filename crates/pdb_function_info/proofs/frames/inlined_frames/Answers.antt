use Rattle.std.proofs.Common.{rules, arith}
use Rattle.std.proofs.lemmas.Grind.{common_steps}
use Rattle.pdb_type_printer.proofs.LoopLemmas.{adds-then}
use Rattle.pdb_function_info.proofs.frames.inlined_frames.Goals as goal

pub returns-in_err-function-clause-broken : goal.returns-in_err-function-clause-broken
returns-in_err-function-clause-broken g c =
    adds-then c.loop-range.invariant.broken (rw c.loop-range.invariant.type_inputs at c.name_of_id.ensures.broken)

pub returns-in_err-inlined_frame-clause-broken : goal.returns-in_err-inlined_frame-clause-broken
returns-in_err-inlined_frame-clause-broken g c =
    adds-then c.loop-range.invariant.broken (rw c.loop-range.invariant.type_inputs at c.name_of_id.ensures.broken)

pub returns-in_err-push-clause-broken : goal.returns-in_err-push-clause-broken
returns-in_err-push-clause-broken g c =
    adds-then c.loop-range.invariant.broken (rw c.loop-range.invariant.type_inputs at c.name_of_id.ensures.broken)

pub loop-range-preserved : goal.loop-range-preserved
loop-range-preserved g c =
    let name = rw c.loop-range.invariant.type_inputs at c.in_ok-function.ensures.answer in
    let failed = rw c.loop-range.invariant.type_inputs at c.in_ok-function.ensures.failed in
    record {
      frames = grind (arith, common_steps, name, c.in_ok-inlined_frame.ensures, c.in_ok-push.ensures.items);
      type_inputs = search rules;
      provider = search rules;
      failed = grind (arith, common_steps, failed);
      broken = adds-then c.loop-range.invariant.broken
          (rw c.loop-range.invariant.type_inputs at c.name_of_id.ensures.broken);
    }
