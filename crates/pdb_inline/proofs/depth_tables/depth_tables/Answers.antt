use Rattle.std.proofs.Common.{◌∙◌, ap, arith}
use Rattle.pdb_inline.specs.ListedRanges.{picked_position}
use Rattle.pdb_inline.specs.DepthTables.{picked_positions}
use Rattle.pdb_inline.proofs.DepthTableLemmas.{picked_at_all, last_position_is_picked}
use Rattle.pdb_inline.proofs.depth_tables.depth_tables.Goals as goal

pub returns : goal.returns
returns c = λ x.
    let ranges = c.args.ranges.now in
    let same = picked_at_all ranges x 0 c.in_ok-segments.segments.items (λ k within.
    c.in_ok-segments.ensures.last k x (omega (arith, within, c.in_ok-segments.ensures.count))
    ∙ rw (c.deref.ensures.value, c.in_ok-listed.ensures)
    (last_position_is_picked k x ranges ∙ ap (λ d. picked_position ranges x d) (omega arith))) in
    rw c.deref-2.ensures.value at (c.in_ok-tables.ensures x)
    ∙ (same ∙ ap (λ n. picked_positions ranges x n 0) c.in_ok-segments.ensures.count)
