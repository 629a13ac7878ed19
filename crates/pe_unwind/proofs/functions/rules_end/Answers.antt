-- Up to the end all offsets have the rules of the body, or lie in one step of the prologue.
use Rattle.std.proofs.Common.{◌<◌, ◌≤◌, length, subst, sym, arith}
use Rattle.pe_unwind.proofs.LineLemmas.{same_plain}
use Rattle.pe_unwind.proofs.StepLemmas.{step_after, step_same, step_within}
use Rattle.pe_unwind.proofs.functions.rules_end.Goals as goal

pub returns-then-is_plain-clause-same : goal.returns-then-is_plain-clause-same
returns-then-is_plain-clause-same c = λ at from less.
    same_plain c.args.function.now c.args.code.now c.args.offset at (sym c.if-is_plain.ensures)
    (c.plain_end.ensures.plain at less from)

pub returns-clause-after : goal.returns-clause-after
returns-clause-after c =
    subst (λ n. c.args.offset < n) (sym c.next_step.ensures)
    (step_after c.args.function.now c.args.offset c.args.size (sym c.if-may_leave.ensures) c.requires.offset)

pub returns-clause-within : goal.returns-clause-within
returns-clause-within c =
    let within = step_within c.args.function.now c.args.offset c.args.size in
    subst (λ n. n ≤ length c.args.code.now) (sym c.next_step.ensures) (omega (arith, within, c.requires.size))

pub returns-clause-same : goal.returns-clause-same
returns-clause-same c = λ at from less.
    step_same c.args.function.now c.args.code.now c.args.offset c.args.size at (sym c.if-lists_epilogues.ensures)
    (sym c.if-may_leave.ensures) from (subst (λ n. at < n) c.next_step.ensures less)
