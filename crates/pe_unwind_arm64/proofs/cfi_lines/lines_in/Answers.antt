-- One line more, and an instruction with the rules of the body after one with them.
use Rattle.std.proofs.Common.{◌≡◌, ◌≤◌, ◌+◌, ◌*◌, ℕ, Some, refl, ap, sym, ◌∙◌, arith}
use Rattle.pe_unwind_arm64.proofs.LineLemmas.{ascend_further, left_later, plain_rules, rule_in, rules_left, shows_four}
use Rattle.pe_unwind_arm64.specs.Epilogues.{epilogues_left}
use Rattle.pe_unwind_arm64.specs.Functions.{rule_at, rules_among, rules_before}
use Rattle.pe_unwind_arm64.proofs.cfi_lines.lines_in.Goals as goal
use Rattle.pe_unwind_arm64.proofs.cfi_lines.lines_in.Goals.{then-not-plain+in_ok-push_change}
use Rattle.pe_unwind_arm64.proofs.cfi_lines.lines_in.Goals.{else-not-plain+else-not-was_plain}

pub loop-instruction-preserved : goal.loop-instruction-preserved
loop-instruction-preserved c =
    let n = c.loop-instruction.instruction in
    let info = c.args.info.now in
    let old = c.loop-instruction.left.now in
    let next = c.epilogues_left-left.result.now in
    let same : rules_among info next n ≡ rules_before info n
    = rules_left info old next n (c.loop-instruction.invariant.left n (omega arith)) c.epilogues_left-left.ensures in
    let left : (at : ℕ) → n + 1 ≤ at → epilogues_left at next ≡ epilogues_left at info.epilogues
    = λ at later. ap (epilogues_left at) c.epilogues_left-left.ensures ∙ left_later n at old (omega arith)
    ∙ c.loop-instruction.invariant.left at (omega arith) in
    elim c.if-not-plain.branch [
      | then-not-plain+in_ok-push_change w ↦
          rw (w.lines-is, w.last-is) (record {
            shows = shows_four (rule_at info) c.loop-instruction.lines.items w.push_change.new.lines.items n
                c.loop-instruction.invariant.shows w.in_ok-push_change.ensures.before
                (λ at from to. w.in_ok-push_change.ensures.on at from
                ∙ ap Some (w.rules_among-rules.ensures ∙ same ∙ rule_in info n at from to));
            last = λ at behind. w.in_ok-push_change.ensures.on at (omega arith);
            ascend = ascend_further w.push_change.new.lines.items (4 * n + 4) (4 * (n + 1)) (omega arith)
                w.in_ok-push_change.ensures.ascend;
            whole = w.in_ok-push_change.ensures.whole;
            left = left;
            plain = λ is. ap Some (w.rules_among-rules.ensures ∙ plain_rules info next n
                (sym c.is_plain-plain.ensures ∙ is));
          })
      | else-not-plain+else-not-was_plain w ↦
          let body = c.loop-instruction.invariant.plain w.if-not-was_plain.false in
          let is_body = plain_rules info next n (sym w.if-not-plain.ensures) in
          rw (w.lines-is, w.last-is) (record {
            shows = shows_four (rule_at info) c.loop-instruction.lines.items c.loop-instruction.lines.items n
                c.loop-instruction.invariant.shows (λ at less. refl)
                (λ at from to. c.loop-instruction.invariant.last at from
                ∙ body ∙ ap Some (sym is_body ∙ same ∙ rule_in info n at from to));
            last = λ at behind. c.loop-instruction.invariant.last at (omega arith);
            ascend = ascend_further c.loop-instruction.lines.items (4 * n) (4 * (n + 1)) (omega arith)
                c.loop-instruction.invariant.ascend;
            whole = c.loop-instruction.invariant.whole;
            left = left;
            plain = λ is. body;
          })
    ]
