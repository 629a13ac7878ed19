-- One item more, and an item that has a fault.
use Rattle.std.proofs.Common.{◌∙◌, ◌<◌, length, Some, ap, refl, sym, arith}
use Rattle.std.proofs.lemmas.Grind.{common_steps}
use Rattle.pdb_msf.proofs.ItemListLemmas.{faulty_item, one_item_more, unread}
use Rattle.pdb_msf.proofs.item_lists.push_items.Goals as goal

pub loop-init : goal.loop-init
loop-init g c =
    unread (g.R.ItemReader.first c.args.reader.now) c.args.bytes.now c.new-rest.result _ _ refl c.new-rest.ensures

pub loop-preserved : goal.loop-preserved
loop-preserved g c =
    let some : 0 < length c.loop.rest = grind (arith, common_steps) in
    one_item_more (g.R.ItemReader.first c.args.reader.now) c.args.bytes.now c.loop.rest c.take.new.rest c.loop.counter
    c.in-Ok.item _ c.loop.items.items _ c.loop-test.true some c.in-Ok.ensures c.in_ok-push-in-Ok.ensures.items
    c.loop.invariant

pub returns-in-Err-Broken-clause-answer : goal.returns-in-Err-Broken-clause-answer
returns-in-Err-Broken-clause-answer g c =
    let some : 0 < length c.loop.rest = grind (arith, common_steps) in
    ap Some c.in-Err-Broken.error-is ∙ sym (ap (λ list. list.fault) (faulty_item (g.R.ItemReader.first c.args.reader.now)
    c.args.bytes.now c.loop.rest c.loop.counter _ c.loop.items.items c.in-Err-Broken.error c.loop-test.true some
    (rw c.in-Err-Broken.field-0-is at c.in-Err-Broken.ensures) c.loop.invariant))
