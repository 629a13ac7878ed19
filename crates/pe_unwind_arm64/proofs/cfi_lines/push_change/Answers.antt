-- One line more, or none.
use Rattle.std.proofs.Common.{◌+◌, arith}
use Rattle.pe_unwind_arm64.proofs.LineLemmas.{ascend-append, ascend_further, same_before, shown_on}
use Rattle.pe_unwind_arm64.proofs.RecordLemmas.{whole-append}
use Rattle.pe_unwind_arm64.proofs.cfi_lines.push_change.Goals as goal

pub returns-in_ok-push-clause-before : goal.returns-in_ok-push-clause-before
returns-in_ok-push-clause-before c =
    same_before c.args.lines.now.items c.push.new.self.items
    (record { offset = c.args.offset; rules = c.args.rules }) c.in_ok-push.ensures.items

pub returns-in_ok-push-clause-on : goal.returns-in_ok-push-clause-on
returns-in_ok-push-clause-on c =
    shown_on c.args.lines.now.items c.push.new.self.items
    (record { offset = c.args.offset; rules = c.args.rules }) c.in_ok-push.ensures.items

pub returns-in_ok-push-clause-ascend : goal.returns-in_ok-push-clause-ascend
returns-in_ok-push-clause-ascend c =
    rw c.in_ok-push.ensures.items (ascend-append c.args.lines.now.items
    (record { offset = c.args.offset; rules = c.args.rules }) c.requires.ascend)

pub returns-else-not-is_same-clause-ascend : goal.returns-else-not-is_same-clause-ascend
returns-else-not-is_same-clause-ascend c =
    ascend_further c.args.lines.now.items c.args.offset (c.args.offset + 4) (omega arith) c.requires.ascend

pub returns-in_ok-push-clause-whole : goal.returns-in_ok-push-clause-whole
returns-in_ok-push-clause-whole c =
    rw c.in_ok-push.ensures.items (whole-append c.args.lines.now.items
    (record { offset = c.args.offset; rules = c.args.rules }) c.requires.whole c.if-prove.false)
