-- One save_next code more, and the end of them.
use Rattle.std.proofs.Common.{◌≡◌, ◌-◌, ◌∙◌, true, false, sym, arith}
use Rattle.std.proofs.lemmas.Grind.{common_steps}
use Rattle.pe_unwind_arm64.proofs.CodeLemmas.{all_nexts, nexts_end, no_next_more, one_next_more}
use Rattle.pe_unwind_arm64.specs.UnwindCodes.{is_next}
use Rattle.pe_unwind_arm64.proofs.unwind_codes.next_operation.Goals as goal
use Rattle.pe_unwind_arm64.proofs.unwind_codes.next_operation.Goals.{else-loop-test, then-loop-test+then-not-is_next}

pub loop-init : goal.loop-init
loop-init c = record { same = all_nexts c.args.bytes.now; few = omega arith }

pub loop-preserved : goal.loop-preserved
loop-preserved c =
    let is : is_next c.loop.rest.now ≡ true = grind (arith, common_steps) in
    record {
      same = rw c.bytes_behind-rest.ensures.answer (c.loop.invariant.same
          ∙ one_next_more c.loop.counter c.loop.count c.loop.rest.now c.loop-test.true is);
      few = omega (arith, c.loop.invariant.few);
    }

pub returns : goal.returns
returns c = elim c.loop-test.branch [
  | else-loop-test w ↦
      let end : 4 - c.loop.counter ≡ 0 = omega arith in
      rw (c.operation_behind.ensures, c.own_operation.ensures.answer)
      (sym (c.loop.invariant.same ∙ nexts_end c.loop.counter c.loop.count c.loop.rest.now end))
  | then-loop-test+then-not-is_next w ↦
      let not : is_next c.loop.rest.now ≡ false = grind (arith, common_steps) in
      rw (c.operation_behind.ensures, c.own_operation.ensures.answer)
      (sym (c.loop.invariant.same ∙ no_next_more (4 - c.loop.counter) c.loop.count c.loop.rest.now not))
]
