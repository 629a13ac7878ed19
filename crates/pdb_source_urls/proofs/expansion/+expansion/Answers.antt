-- A text is expanded by each step and the steps that are left.
use Rattle.std.proofs.Common.{◌≡◌, ◌∙◌, sym, ◌-◌, ◌∷◌, length, arith, rules}
use Rattle.pdb_source_urls.specs.Expansion.{expand, found_seen, given, value_seen}
use Rattle.pdb_source_urls.proofs.ExpansionLemmas.{expand_is, expand_long, expand_none, from_end, from_nothing}
use Rattle.pdb_source_urls.proofs.ExpansionLemmas.{passed_on, step_fails, step_kept}
use Rattle.pdb_source_urls.proofs.expansion.+expansion.Goals as goal
use Rattle.pdb_source_urls.proofs.expansion.+expansion.Goals.{expand-else-loop-step-test}
use Rattle.pdb_source_urls.proofs.expansion.+expansion.Goals.{expand-then-loop-step-test+in_default}

pub expand-returns-then-depth-eq0 : goal.expand-returns-then-depth-eq0
expand-returns-then-depth-eq0 t c =
    rw c.if-depth-eq0.true (expand_none (given c.args.sources) c.args.text.now c.args.used)

pub expand-returns-then-text-gt-MOST_TEXT : goal.expand-returns-then-text-gt-MOST_TEXT
expand-returns-then-text-gt-MOST_TEXT t c =
    expand_long c.args.depth (given c.args.sources) c.args.text.now c.args.used c.if-text-gt-MOST_TEXT.true

pub expand-returns-in_err-part : goal.expand-returns-in_err-part
expand-returns-in_err-part t c =
    let whole = expand_is c.args.depth (given c.args.sources) c.args.text.now c.args.used (omega arith) (omega arith) in
    let cons : c.loop-step.rest.now ≡ c.in-Some.byte ∷ c.in-Some.others.now = search rules in
    let failed = step_fails (expand (c.args.depth - 1) (given c.args.sources)) (given c.args.sources)
    (length c.args.text.now) c.loop-step._step c.in-Some.byte c.loop-step.rest.now c.in-Some.others.now
    (value_seen c.loop-step.done) c.in_err-part.field-0.0 _ c.loop-step-test.true cons c.loop-step.invariant
    (rw (← c.in-Some.byte-is) c.in_err-part.ensures) in
    rw whole (passed_on c.from_residual.result c.in_err-part.field-0.0 _ c.from_residual.ensures.1 failed)

pub expand-loop-step-preserved : goal.expand-loop-step-preserved
expand-loop-step-preserved t c =
    let cons : c.loop-step.rest.now ≡ c.in-Some.byte ∷ c.in-Some.others.now = search rules in
    step_kept (expand (c.args.depth - 1) (given c.args.sources)) (given c.args.sources) (length c.args.text.now)
    c.loop-step._step c.in-Some.byte c.loop-step.rest.now c.in-Some.others.now (value_seen c.loop-step.done)
    (found_seen c.in_ok-part.part) _ c.loop-step-test.true cons c.loop-step.invariant
    (rw (← c.in-Some.byte-is) c.in_ok-part.ensures)

pub expand-returns : goal.expand-returns
expand-returns t c =
    let whole = expand_is c.args.depth (given c.args.sources) c.args.text.now c.args.used (omega arith) (omega arith) in
    elim c.loop-step-test.branch [
      | expand-else-loop-step-test w ↦ whole ∙ (sym c.loop-step.invariant
          ∙ from_end (expand (c.args.depth - 1) (given c.args.sources)) (given c.args.sources) (length c.args.text.now)
          c.loop-step._step c.loop-step.rest.now (value_seen c.loop-step.done) w.loop-step-test.false)
      | expand-then-loop-step-test+in_default w ↦ whole ∙ (sym c.loop-step.invariant
          ∙ from_nothing (expand (c.args.depth - 1) (given c.args.sources)) (given c.args.sources)
          (length c.args.text.now - c.loop-step._step) c.loop-step.rest.now (value_seen c.loop-step.done)
          w.in_default.ensures.cases)
    ]
