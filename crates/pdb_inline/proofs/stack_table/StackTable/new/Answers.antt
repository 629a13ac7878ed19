use Rattle.std.proofs.Common.{◌≡◌, ◌∙◌, ◌*◌, ℕ, length, sym, ap, arith}
use Rattle.std.proofs.lemmas.List.Sorted.{length_permutation}
use Rattle.pdb_inline.specs.DepthTables.{positions_in, up_to_gap, picked_positions}
use Rattle.pdb_inline.proofs.RangeBoundLemmas.{changes_at_sorted, length-bounds}
use Rattle.pdb_inline.proofs.StackLemmas.{positions_are, positions_alike, positions_none}
use Rattle.pdb_inline.proofs.stack_table.StackTable.new.Goals as goal

pub stacks_between-requires : goal.stacks_between-requires
stacks_between-requires c =
    let ranges = c.args.ranges.now in
    let values : (x : ℕ) → positions_in c.deref.result.now x ≡ up_to_gap (picked_positions ranges x (length ranges) 0) =
    λ x. rw c.deref.ensures.value (ap up_to_gap (c.in_ok-tables.ensures x)) in
    rw c.deref-2.ensures.value (changes_at_sorted (positions_in c.deref.result.now) ranges c.in_ok-bounds.bounds.items
    (λ x n alike. values x ∙ (ap up_to_gap (positions_alike x n ranges (length ranges) 0 alike) ∙ sym (values n)))
    (λ x none. values x ∙ positions_none x ranges (length ranges) 0 none)
    c.in_ok-bounds.ensures.all c.in_ok-bounds.ensures.sorted)

pub returns-clause-stacks : goal.returns-clause-stacks
returns-clause-stacks c = λ x.
    rw (c.in_ok-table.ensures.answer x, c.deref.ensures.value, ap up_to_gap (c.in_ok-tables.ensures x))
    (positions_are c.args.ranges.now x)

pub returns-clause-positions : goal.returns-clause-positions
returns-clause-positions c = λ x.
    rw (c.in_ok-table.ensures.answer x, c.deref.ensures.value) (ap up_to_gap (c.in_ok-tables.ensures x))

pub returns-clause-bound : goal.returns-clause-bound
returns-clause-bound c =
    let count : length c.deref-2.result.now ≡ 2 * length c.args.ranges.now =
    rw c.deref-2.ensures.value (length_permutation _ _ c.in_ok-bounds.ensures.all ∙ length-bounds c.args.ranges.now) in
    omega (arith, count, c.in_ok-table.ensures.bound)
