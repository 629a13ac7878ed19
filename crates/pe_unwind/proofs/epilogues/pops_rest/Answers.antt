-- One pop passed, and the end of the pops.
use Rattle.std.proofs.Common.{◌≡◌, ◌-◌, ◌∙◌, refl, ap, sym, arith}
use Rattle.pe_unwind.proofs.PopLemmas.{first_pops-rest, no_pop_passed, one_pop_passed}
use Rattle.pe_unwind.specs.Epilogues.{pops_rest}
use Rattle.pe_unwind.proofs.epilogues.pops_rest.Goals as goal

pub loop-init : goal.loop-init
loop-init c = record { same = refl; shorter = omega arith }

pub loop-preserved : goal.loop-preserved
loop-preserved c =
    let step = one_pop_passed c.loop.counter c.loop.rest.now c.in-Some.pop c.loop-test.true (sym c.in-Some.ensures) in
    record {
      same = rw (c.behind-rest.ensures.answer) (c.loop.invariant.same ∙ step);
      shorter = omega (arith, c.behind-rest.ensures.shorter, c.loop.invariant.shorter);
    }

pub returns-after-loop-clause-rest : goal.returns-after-loop-clause-rest
returns-after-loop-clause-rest c = λ u.
    let end : 16 - c.loop.counter ≡ 0 = omega arith in
    sym (first_pops-rest c.args.code.now u ∙ c.loop.invariant.same ∙ ap (λ n. pops_rest n c.loop.rest.now) end)

pub returns-in_default-clause-rest : goal.returns-in_default-clause-rest
returns-in_default-clause-rest c = λ u.
    sym (first_pops-rest c.args.code.now u ∙ c.loop.invariant.same
    ∙ no_pop_passed (16 - c.loop.counter) c.loop.rest.now (sym c.first_pop.ensures ∙ c.in_default.is))
