use Rattle.std.proofs.Common.{◌≡◌, take}
use Rattle.pdb_addr2line.specs.Calls.{Appends, answers_to, after_calls}
use Rattle.pdb_addr2line.proofs.context.Context.run_calls.Given as goal

-- the answers to the calls so far are there, and the context is as they leave it
abbrev pub invariant-loop-call : goal.invariant-loop-call
invariant-loop-call g l =
    let info = g.P.ModuleProvider.info in
    record {
      answers : Appends l.initial.answers.items l.answers.items
          (answers_to info l.initial.self (take l.call-index l.calls));
      state : l.self ≡ after_calls info l.initial.self (take l.call-index l.calls);
    }
