-- One code more, a code that is refused, and the end of the codes.
use Rattle.std.proofs.Common.{◌≡◌, ◌-◌, ◌<◌, length, ap, arith}
use Rattle.std.proofs.lemmas.Grind.{common_steps}
use Rattle.std.proofs.lemmas.Result.{err_from_is_err_and}
use Rattle.pe_unwind.proofs.ListLemmas.{all_codes, fails_onward, no_codes_left, one_code_more, refused_code}
use Rattle.pe_unwind.specs.UnwindCodes.{codes_up_to, first_code, unwind_codes}
use Rattle.pe_unwind.proofs.unwind_codes.unwind_codes.Goals as goal
use Rattle.pe_unwind.proofs.unwind_codes.unwind_codes.Goals.{else-loop-test, then-loop-test+then-is_empty}

pub loop-preserved : goal.loop-preserved
loop-preserved c =
    let some : 0 < length c.loop.rest.now = grind (arith, common_steps) in
    one_code_more c.args.version _ c.loop.counter c.loop.rest.now _ c.in_ok-code.code _ _ _ c.loop-test.true some
    c.in_ok-code.ensures c.in_ok-push.ensures.items c.loop.invariant

pub returns-in_err-code : goal.returns-in_err-code
returns-in_err-code c =
    let some : 0 < length c.loop.rest.now = grind (arith, common_steps) in
    let p = err_from_is_err_and c.from_residual.result c.from_residual.ensures.1 in
    rw (p.1, p.2) (record {
      answer = fails_onward c.in_err-code.field-0.0 (first_code c.args.version c.loop.rest.now)
          (unwind_codes c.args.version c.args.bytes.now)
          (λ refusal is. refused_code c.args.version _ c.loop.counter c.loop.rest.now refusal _ c.loop.codes.items
          c.loop-test.true some is c.loop.invariant) c.in_err-code.ensures;
    })

pub returns : goal.returns
returns c = elim c.loop-test.branch [
  | else-loop-test w ↦
      let end : length c.args.bytes.now - c.loop.counter ≡ 0 = omega arith in
      record {
        answer = all_codes _ c.loop.codes.items _
            (ap (λ n. codes_up_to n c.args.version c.loop.rest.now) end) c.loop.invariant;
      }
  | then-loop-test+then-is_empty w ↦
      let none : length c.loop.rest.now ≡ 0 = grind (arith, common_steps) in
      record {
        answer = all_codes _ c.loop.codes.items _ (no_codes_left _ c.args.version c.loop.rest.now none)
            c.loop.invariant;
      }
]
