use Rattle.std.proofs.Common.{◌∙◌, append-nil, sym, arith, vec_len}
use Rattle.pdb_inline.proofs.PickedLemmas.{picked_below, stack_step, slot_is_picked}
use Rattle.pdb_inline.proofs.StackLemmas.{one_more_over, stack_is_over}
use Rattle.pdb_inline.proofs.inline_stacks.inline_stack.Goals as goal

pub loop-range-smaller : goal.loop-range-smaller
loop-range-smaller c =
    let by_depth = c.in_ok-picked in
    let there = rw c.deref.ensures.value at (sym c.range_at.ensures ∙ c.in-Some.is) in
    let picked = slot_is_picked by_depth.picked.items c.args.ranges.now c.args.offset c.len-in-loop-range.result
    c.in-Some.range by_depth.ensures.picked by_depth.ensures.none there in
    let below = picked_below c.args.ranges.now c.len-in-loop-range.result c.args.offset c.in-Some.range picked in
    omega (arith, below, c.len-in-loop-range.ensures, c.in_ok-push.ensures.len)

pub loop-range-preserved : goal.loop-range-preserved
loop-range-preserved c =
    let by_depth = c.in_ok-picked in
    let there = rw (c.deref.ensures.value, c.len-in-loop-range.ensures) at (sym c.range_at.ensures ∙ c.in-Some.is) in
    let picked = slot_is_picked by_depth.picked.items c.args.ranges.now c.args.offset (vec_len c.loop-range.stack)
    c.in-Some.range by_depth.ensures.picked by_depth.ensures.none there in
    rw c.in_ok-push.ensures.len (record {
      whole = stack_step c.args.ranges.now
          (vec_len c.loop-range.stack) c.args.offset c.in-Some.range c.loop-range.stack.items c.push.new.self.items _
          picked c.loop-range.invariant.whole c.in_ok-push.ensures.items;
      over = one_more_over c.args.ranges.now c.args.offset
          (vec_len c.loop-range.stack) c.in-Some.range c.loop-range.invariant.over picked;
    })

pub returns : goal.returns
returns c =
    let by_depth = c.in_ok-picked in
    let none = rw (c.deref.ensures.value, c.len-in-loop-range.ensures) at (sym c.range_at.ensures ∙ c.in_default.is) in
    let over = stack_is_over c.args.ranges.now c.args.offset (vec_len c.loop-range.stack) c.loop-range.invariant.over
    (λ within. sym (by_depth.ensures.picked (vec_len c.loop-range.stack) within) ∙ none) in
    sym (append-nil c.loop-range.stack.items) ∙ rw over at c.loop-range.invariant.whole
