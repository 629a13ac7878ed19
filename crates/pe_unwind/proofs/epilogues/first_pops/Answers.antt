-- One pop more, and the end of the pops.
use Rattle.std.proofs.Common.{◌≡◌, ◌-◌, ◌∙◌, ap, sym, arith}
use Rattle.pe_unwind.proofs.PopLemmas.{all_pops, no_pop_more, one_pop_more, pops_end}
use Rattle.pe_unwind.specs.Epilogues.{first_pops}
use Rattle.pe_unwind.proofs.epilogues.first_pops.Goals as goal
use Rattle.pe_unwind.proofs.epilogues.first_pops.Goals.{else-loop-test, then-loop-test+in_default}

pub loop-init : goal.loop-init
loop-init c = record { same = all_pops c.args.code.now c.args.unwound; shorter = omega arith }

pub loop-preserved : goal.loop-preserved
loop-preserved c =
    let step = one_pop_more c.loop.counter c.loop.rest.now c.loop.undone c.in-Some.pop c.loop-test.true
    (sym c.in-Some.ensures) in
    record {
      same = rw (c.behind-rest.ensures.answer, c.pop_undone-undone.ensures) (c.loop.invariant.same ∙ step);
      shorter = omega (arith, c.behind-rest.ensures.shorter, c.loop.invariant.shorter);
    }

-- behind the loop all pops are undone that may be
all_undone : (c : goal.Left-loop) → first_pops c.args.code.now c.args.unwound ≡ (c.loop.undone, c.loop.rest.now)
all_undone c = elim c.loop-test.branch [
  | else-loop-test w ↦
      let end : 16 - c.loop.counter ≡ 0 = omega arith in
      c.loop.invariant.same ∙ pops_end c.loop.counter c.loop.rest.now c.loop.undone end
  | then-loop-test+in_default w ↦
      c.loop.invariant.same ∙ no_pop_more (16 - c.loop.counter) c.loop.rest.now c.loop.undone
      (sym w.first_pop.ensures ∙ w.in_default.is)
]

pub returns-clause-undone : goal.returns-clause-undone
returns-clause-undone c = sym (ap (λ p. p.0) (all_undone c))

pub returns-clause-rest : goal.returns-clause-rest
returns-clause-rest c = sym (ap (λ p. p.1) (all_undone c))
