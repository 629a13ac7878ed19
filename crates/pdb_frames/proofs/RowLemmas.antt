-- The rows of a function by their offsets have the same row over an offset, and it is the last one up to there.
use Rattle.std.proofs.Common.{◌≡◌, ◌∙◌, ℕ, ◌<◌, Bool, true, false, cond, not, List, [], ◌∷◌, Option, Some, None, refl}
use Rattle.std.proofs.Common.{sym, ap, arith}
use Rattle.std.specs.Prelude.{nat_le}
use Rattle.std.specs.List.{AllByRecursion}
use Rattle.std.specs.Ordering.{nat_cmp, is_eq}
use Rattle.std.proofs.lemmas.Bool.Decides.{nat_tests}
use Rattle.std.proofs.lemmas.Cmp.{nat_cmp_total}
use Rattle.pdb_records.specs.declared.lines.LineInfo.{LineInfo}
use Rattle.pdb_tables.specs.InOrder.{put, in_order}
use Rattle.pdb_tables.specs.Keyed.{is_above, is_lower, firsts_after, first_of_each_key, KeysAscend}
use Rattle.pdb_tables.specs.Last.{last_over}
use Rattle.pdb_tables.specs.Pick.{later_start}
use Rattle.pdb_tables.proofs.KeyedLemmas as keyed
use Rattle.pdb_tables.proofs.LastLemmas.{Climbs, pick-last}
use Rattle.pdb_tables.proofs.NumberLemmas.{equal_test, less_test}
use Rattle.pdb_tables.proofs.PickLemmas.{later_start_assoc}
use Rattle.pdb_frames.specs.Lines.{row_over}

-- one row stands at a lower offset than the other
abbrev row_before : LineInfo → LineInfo → Bool
row_before a b = is_lower nat_cmp (λ row. row.offset) a b

-- of neighbours with one offset the first, where a row of this offset stands in front
abbrev first_rows_after : Option ℕ → List LineInfo → List LineInfo
first_rows_after before rows = firsts_after nat_cmp (λ row. row.offset) before rows

-- a row as an option, where a test of it passes
abbrev when : Bool → LineInfo → Option LineInfo
when t row = cond t (Some row) None

-- of two options of rows the one of greater offset; of equal offsets the first
abbrev later : Option LineInfo → Option LineInfo → Option LineInfo
later a b = later_start (λ row. row.offset) a b

-- of two rows of which one stands at a lower offset, either may be compared first
later_swapped : (s t : Bool) (a b : LineInfo) → b.offset < a.offset
    → later (when t b) (when s a) ≡ later (when s a) (when t b)
later_swapped true true a b below = grind (arith, nat_tests)
later_swapped true false a b below = refl
later_swapped false true a b below = refl
later_swapped false false a b below = refl

-- a row that is put to its place is picked as one in front
row_over-put : (x : ℕ) (row : LineInfo) (rows : List LineInfo)
    → row_over (put row_before row rows) x ≡ later (when (nat_le row.offset x) row) (row_over rows x)
row_over-put x row [] = refl
row_over-put x row (other ∷ rows) = by_test (row_before other row) refl (row_over-put x row rows) where
  this : Option LineInfo
  this = when (nat_le row.offset x) row

  that : Option LineInfo
  that = when (nat_le other.offset x) other

  by_test : (t : Bool) → row_before other row ≡ t → row_over (put row_before row rows) x ≡ later this (row_over rows x)
      → row_over (cond t (other ∷ put row_before row rows) (row ∷ other ∷ rows)) x ≡ later this
      (later that (row_over rows x))
  by_test false is rest = refl
  by_test true is rest =
      let below : other.offset < row.offset = grind (arith, nat_tests, sym (less_test other.offset row.offset) ∙ is) in
      ap (λ o. later that o) rest ∙ sym (later_start_assoc (λ r. r.offset) that this (row_over rows x))
      ∙ ap (λ o. later o (row_over rows x))
      (later_swapped (nat_le row.offset x) (nat_le other.offset x) row other below)
      ∙ later_start_assoc (λ r. r.offset) this that (row_over rows x)

-- rows that are put in order have the same row over an offset
row_over-in_order : (x : ℕ) (rows : List LineInfo) → row_over (in_order row_before rows) x ≡ row_over rows x
row_over-in_order x [] = refl
row_over-in_order x (row ∷ rows) =
    row_over-put x row (in_order row_before rows) ∙ ap (λ o. later (when (nat_le row.offset x) row) o)
    (row_over-in_order x rows)

-- after a row, others of its offset are never picked
pick_first : (x : ℕ) (row : LineInfo) (rows : List LineInfo)
    → later (when (nat_le row.offset x) row) (row_over (first_rows_after (Some row.offset) rows) x)
    ≡ later (when (nat_le row.offset x) row) (row_over rows x)
pick_first x row [] = refl
pick_first x row (other ∷ rows) = by_test (is_eq (nat_cmp row.offset other.offset)) refl (pick_first x row rows)
    (pick_first x other rows) where
      this : Option LineInfo
      this = when (nat_le row.offset x) row

      that : Option LineInfo
      that = when (nat_le other.offset x) other

      same : (s t : Bool) → s ≡ t → row.offset ≡ other.offset → later (when s row) (when t other) ≡ when s row
      same true true both is = grind (arith, nat_tests)
      same false false both is = refl
      same true false both is = cc
      same false true both is = cc

      by_test : (t : Bool) → is_eq (nat_cmp row.offset other.offset) ≡ t
          → later this (row_over (first_rows_after (Some row.offset) rows) x) ≡ later this (row_over rows x)
          → later that (row_over (first_rows_after (Some other.offset) rows) x) ≡ later that (row_over rows x)
          → later this (row_over (cond t (first_rows_after (Some row.offset) rows)
          (other ∷ first_rows_after (Some other.offset) rows)) x)
          ≡ later this (later that (row_over rows x))
      by_test true is rest next =
          let one : row.offset ≡ other.offset =
          grind (arith, nat_tests, sym (equal_test row.offset other.offset) ∙ is) in
          let both : later this that ≡ this =
          same (nat_le row.offset x) (nat_le other.offset x) (ap (λ o. nat_le o x) one) one in
          rest ∙ ap (λ o. later o (row_over rows x)) (sym both) ∙ later_start_assoc (λ r. r.offset) this that
          (row_over rows x)
      by_test false is rest next = ap (λ o. later this o) next

-- the first rows of neighbours have the same row over an offset
row_over-firsts : (x : ℕ) (rows : List LineInfo) → row_over (first_rows_after None rows) x ≡ row_over rows x
row_over-firsts x [] = refl
row_over-firsts x (row ∷ rows) = pick_first x row rows

-- so the first of each offset, in order, have the same row over an offset
pub row_over_firsts : (x : ℕ) (rows : List LineInfo)
    → row_over (first_of_each_key nat_cmp (λ row. row.offset) rows) x ≡ row_over rows x
row_over_firsts x rows = row_over-firsts x (in_order row_before rows) ∙ row_over-in_order x rows

-- rows that ascend climb
climb : (x : ℕ) (rows : List LineInfo) → KeysAscend nat_cmp (λ row. row.offset) rows
    → Climbs (λ row. nat_le row.offset x) (λ row. row.offset) rows
climb x [] up = tt
climb x (row ∷ rows) up = (all_later rows up.0, climb x rows up.1) where
  all_later : (others : List LineInfo) → AllByRecursion (λ other. row_before row other ≡ true) others
      → AllByRecursion (λ other. nat_le row.offset x ≡ true → nat_le other.offset x ≡ true
      → row.offset < other.offset) others
  all_later [] all = tt
  all_later (other ∷ others) all =
      let below : row.offset < other.offset =
      grind (arith, nat_tests, sym (less_test row.offset other.offset) ∙ all.0) in
      ((λ at other_at. below), all_later others all.1)

-- what isn't above an offset is at or below it
not_above : (x : ℕ) (before : Option LineInfo) (rows : List LineInfo)
    → last_over (λ row. nat_le row.offset x) before rows
    ≡ last_over (λ row. not (is_above nat_cmp (λ row. row.offset) x row)) before rows
not_above x before [] = refl
not_above x before (row ∷ rows) =
    let same : nat_le row.offset x ≡ not (is_above nat_cmp (λ row. row.offset) x row) =
    rw (less_test x row.offset) (grind (arith, nat_tests)) in
    rw same (not_above x (cond (not (is_above nat_cmp (λ row. row.offset) x row)) (Some row) before) rows)

-- the row over an offset is the last one that isn't above it
pub row_is_last : (x : ℕ) (rows : List LineInfo) → KeysAscend nat_cmp (λ row. row.offset) rows
    → row_over rows x ≡ last_over (λ row. not (is_above nat_cmp (λ row. row.offset) x row)) None rows
row_is_last x rows up =
    pick-last (λ row. nat_le row.offset x) (λ row. row.offset) rows (climb x rows up) ∙ not_above x None rows

-- the first rows of each offset ascend
pub firsts_ascend : (rows : List LineInfo)
    → KeysAscend nat_cmp (λ row. row.offset) (first_of_each_key nat_cmp (λ row. row.offset) rows)
firsts_ascend rows = keyed.firsts_ascend nat_cmp_total (λ row. row.offset) rows
