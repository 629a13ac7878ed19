use Rattle.std.proofs.Common.{◌<◌, length, arith}
use Rattle.pdb_addr2line.proofs.FunctionLemmas.{on_error}
use Rattle.pdb_addr2line.proofs.RunLemmas.{after_one_call_more, answers_one_more, stops_here}
use Rattle.pdb_addr2line.proofs.context.Context.run_calls.Goals as goal

pub loop-call-preserved : goal.loop-call-preserved
loop-call-preserved g c =
    let info = g.P.ModuleProvider.info in
    let i = c.loop-call.call-index in
    let below : i < length c.args.calls.now = omega arith in
    let so_far = c.loop-call.invariant in
    let made = c.in_ok-append_answer.ensures in
    record {
      answers = answers_one_more info c.args.self.now c.loop-call.self c.args.calls.now i _ _ _ below so_far.state
          so_far.answers made.answers;
      state = after_one_call_more info c.args.self.now c.loop-call.self _ c.args.calls.now i below so_far.state
          made.state;
    }

pub returns-in_err-append_answer-clause-early : goal.returns-in_err-append_answer-clause-early
returns-in_err-append_answer-clause-early g c =
    let info = g.P.ModuleProvider.info in
    let i = c.loop-call.call-index in
    let below : i < length c.args.calls.now = omega arith in
    let so_far = c.loop-call.invariant in
    let unmade = c.in_err-append_answer.ensures in
    on_error _ (stops_here info c.args.self.now c.loop-call.self c.append_answer.new.self c.args.calls.now i _ _ _
    below so_far.state so_far.answers unmade.unchanged_if_refused unmade.gains)
