-- One line more, or none, whose rules hold up to the next offset.
use Rattle.std.proofs.Common.{◌+◌, sym, ◌∙◌, arith}
use Rattle.pe_unwind.proofs.LineLemmas.{ascend_further, shows_run}
use Rattle.pe_unwind.specs.Functions.{rule_at}
use Rattle.pe_unwind.proofs.cfi_lines.lines_of.Goals as goal

pub loop-offset-preserved : goal.loop-offset-preserved
loop-offset-preserved c = record {
  within = c.rules_end-offset.ensures.within;
  shows = shows_run (rule_at c.args.function.now c.args.code.now) c.loop-offset.lines.items
      c.push_change.new.lines.items c.loop-offset.offset c.rules_end-offset.result c.rule_by_body-rules.result
      c.loop-offset.invariant.shows c.in_ok-push_change.ensures.before c.in_ok-push_change.ensures.on
      (λ at from less. c.rules_end-offset.ensures.same at from less ∙ sym c.rule_by_body-rules.ensures);
  last = λ at behind. c.in_ok-push_change.ensures.on at (omega arith);
  ascend = ascend_further c.push_change.new.lines.items (c.loop-offset.offset + 1) c.rules_end-offset.result
      (omega arith) c.in_ok-push_change.ensures.ascend;
  whole = c.in_ok-push_change.ensures.whole;
}
