use Rattle.std.proofs.Common.{ℕ}
use Rattle.std.proofs.lemmas.List.Sorted.{list_any-IsPermutation}
use Rattle.pdb_tables.specs.RangeSet.{is_within}
use Rattle.pdb_tables.proofs.range_set.RangeSet.of_rows.Goals as goal

pub returns : goal.returns
returns c = λ x.
    let same = list_any-IsPermutation
    (λ (row : ℕ × ℕ). is_within row.0 row.1 x) _ _ c.sort_unstable.ensures.permutation in
    rw (
      c.in_ok-add_ranges.ensures.state,
      c.new-runs.ensures.items,
      c.deref.ensures.value,
      ← same,
      c.in_ok-rows.ensures.items,
    )
