-- One code more, and the end of the codes.
use Rattle.std.proofs.Common.{◌≡◌, ◌-◌, ◌<◌, length, ap, arith}
use Rattle.std.proofs.lemmas.Grind.{common_steps}
use Rattle.pe_unwind_arm64.proofs.CodeLemmas.{all_codes, no_codes_left, one_code_more}
use Rattle.pe_unwind_arm64.specs.UnwindCodes.{codes_up_to}
use Rattle.pe_unwind_arm64.proofs.unwind_codes.codes_in.Goals as goal
use Rattle.pe_unwind_arm64.proofs.unwind_codes.codes_in.Goals.{else-loop-test, then-loop-test+then-is_empty}

pub loop-preserved : goal.loop-preserved
loop-preserved c =
    let some : 0 < length c.loop.rest.now = grind (arith, common_steps) in
    record {
      same = rw (c.bytes_behind-rest.ensures.answer, c.code_size.ensures)
          (one_code_more _ c.loop.counter _ c.loop.rest.now _ _ _ _ c.loop-test.true some
          (ap (λ x. record { index = length c.args.bytes.now - length c.loop.rest.now; operation = x })
          c.operation_of.ensures)
          c.in_ok-push.ensures.items c.loop.invariant.same);
      shorter = omega (arith, c.bytes_behind-rest.ensures.shorter, c.loop.invariant.shorter);
    }

pub returns : goal.returns
returns c = elim c.loop-test.branch [
  | else-loop-test w ↦
      let end : length c.args.bytes.now - c.loop.counter ≡ 0 = omega arith in
      record {
        answer = all_codes _ c.loop.codes.items _
            (ap (λ n. codes_up_to n (length c.args.bytes.now) c.loop.rest.now) end) c.loop.invariant.same;
      }
  | then-loop-test+then-is_empty w ↦
      let none : length c.loop.rest.now ≡ 0 = grind (arith, common_steps) in
      record {
        answer = all_codes _ c.loop.codes.items _ (no_codes_left _ (length c.args.bytes.now) c.loop.rest.now none)
            c.loop.invariant.same;
      }
]
