-- One level more, and all of them.
use Rattle.std.proofs.Common.{◌≡◌, ◌∙◌, ◌<◌, ◌≤◌, ap, arith, get_or, length, subst}
use Rattle.std.specs.List.{All}
use Rattle.std.proofs.lemmas.List.{take_all}
use Rattle.std.proofs.lemmas.List.Elements.{All-more}
use Rattle.pdb_breakpad.specs.AddressSpans.{Ascend}
use Rattle.pdb_breakpad.proofs.InlineRecordLemmas.{one_level_more}
use Rattle.pdb_breakpad.proofs.inline_records.InlineRecords.records.Goals as goal

pub loop-level-preserved : goal.loop-level-preserved
loop-level-preserved c =
    let level = c.loop-level.level in
    let below : level < length c.args.self.now
    = omega (arith, ap length c.deref-spans-items.ensures.value, ap length c.self.view_is, c.loop-level-test.true) in
    let is : c.spans-item.result ≡ get_or c.args.self.now level c.spans-item.result
    = c.spans-item.is ∙ ap (λ list. get_or list level c.spans-item.result)
    (c.deref-spans-items.ensures.value ∙ c.self.view_is) in
    record {
      made = one_level_more level c.args.self.now c.spans-item.result c.loop-level.records.items
          c.push_level_records.new.records.items _ below is c.in_ok-push_level_records.ensures.state
          c.loop-level.invariant.made;
      order = All-more Ascend c.args.self.now level c.spans-item.result below c.loop-level.invariant.order
          (subst Ascend is c.in_ok-push_level_records.ensures.order);
    }

pub returns-clause-order : goal.returns-clause-order
returns-clause-order c =
    let all : length c.args.self.now ≤ c.loop-level.level
    = omega (arith, ap length c.deref-spans-items.ensures.value, ap length c.self.view_is, c.loop-level-test.false) in
    subst (All Ascend) (take_all c.loop-level.level c.args.self.now all) c.loop-level.invariant.order
