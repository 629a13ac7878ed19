-- The value of a number is that of the last segment that begins by it, where that ends above it.
use Rattle.std.proofs.Common.{◌≡◌, ◌∙◌, ℕ, ◌≤◌, ◌<◌, true, not, List, [], ◌∷◌, Option, Some, None, refl}
use Rattle.std.proofs.Common.{ap, arith, inl, inr}
use Rattle.std.specs.Prelude.{⊤, nat_lt, if◌then◌else◌}
use Rattle.std.specs.List.{AllByRecursion}
use Rattle.std.specs.Option.{option_or}
use Rattle.std.specs.Ordering.{nat_cmp}
use Rattle.std.proofs.lemmas.Bool.{cases_lt, lt-ltb, le-ltb}
use Rattle.pdb_tables.specs.declared.segment.Segment.{Segment}
use Rattle.pdb_tables.specs.Keyed.{is_above, KeysAscend}
use Rattle.pdb_tables.specs.Last.{last_over}
use Rattle.pdb_tables.specs.Segments.{value_at, IsOrderedFrom}
use Rattle.pdb_tables.proofs.HasLemmas.{within_yes, within_below, within_above}
use Rattle.pdb_tables.proofs.NumberLemmas.{less_test}
use Rattle.pdb_tables.proofs.SegmentLemmas.{option_or-None, value_below}

-- what a segment that begins by a number gives it
abbrev pub given : {T : Type 0} → ℕ → Option (Segment T) → Option T
given x None = None
given x (Some s) = if nat_lt x s.end then Some s.value else None

-- the segment ends no later than a number
abbrev IsPast : {T : Type 0} → ℕ → Option (Segment T) → Type 0
IsPast n None = ⊤
IsPast n (Some s) = s.end ≤ n

-- a segment that ends no later than a number gives it nothing
none_given : {T : Type 0} (x : ℕ) (before : Option (Segment T)) → IsPast x before → given x before ≡ None
none_given x None past = refl
none_given x (Some s) past = rw (le-ltb x s.end past) refl

-- what ends no later than a number ends no later than a greater one
past_later : {T : Type 0} (m n : ℕ) (before : Option (Segment T)) → m ≤ n → IsPast m before → IsPast n before
past_later m n None later past = tt
past_later m n (Some s) later past = omega arith

-- where the first segment begins above a number, or by it
value_given : {T : Type 0} (x n : ℕ) (before : Option (Segment T)) (ss : List (Segment T)) → IsOrderedFrom n ss
    → IsPast n before
    → given x (last_over (λ s. not (is_above nat_cmp (λ s. s.start) x s)) before ss)
    ≡ option_or (value_at ss x) (given x before)
value_given x n before [] ordered past = refl
value_given x n before (s ∷ ss) ordered past =
    elim (cases_lt x s.start) [
      | inl below ↦ rw (less_test x s.start, lt-ltb x s.start below, within_below s.start s.end x below)
          (value_given x s.end before ss ordered.2 (past_later n s.end before (omega arith) past))
      | inr begun ↦ rw (less_test x s.start, le-ltb x s.start begun)
          (value_given x s.end (Some s) ss ordered.2 (omega arith) ∙ elim (cases_lt x s.end) [
            | inl before_end ↦ rw (
              within_yes s.start s.end x begun before_end,
              value_below x s.end ss before_end ordered.2,
              lt-ltb x s.end before_end,
            ) refl
            | inr ended ↦ rw (
              within_above s.start s.end x ended,
              le-ltb x s.end ended,
              none_given x before (past_later n x before (omega arith) past),
            ) refl
          ])
    ]

-- the value of a number is what the last segment that begins by it gives it
pub value_given_by_last : {T : Type 0} (x : ℕ) (ss : List (Segment T)) (last : Option (Segment T)) → IsOrderedFrom 0 ss
    → last ≡ last_over (λ s. not (is_above nat_cmp (λ s. s.start) x s)) None ss → given x last ≡ value_at ss x
value_given_by_last x ss last ordered is =
    ap (given x) is ∙ value_given x 0 None ss ordered tt ∙ option_or-None (value_at ss x)

-- segments in order begin above a number that is below where they may begin
starts_above : {T : Type 0} (m n : ℕ) (ss : List (Segment T)) → m < n → IsOrderedFrom n ss
    → AllByRecursion (λ s. is_above nat_cmp (λ s. s.start) m s ≡ true) ss
starts_above m n [] below ordered = tt
starts_above m n (s ∷ ss) below ordered =
    (less_test m s.start ∙ lt-ltb m s.start (omega arith), starts_above m s.end ss (omega arith) ordered.2)

-- the starts of segments in order ascend
pub starts_ascend : {T : Type 0} (n : ℕ) (ss : List (Segment T)) → IsOrderedFrom n ss
    → KeysAscend nat_cmp (λ s. s.start) ss
starts_ascend n [] ordered = tt
starts_ascend n (s ∷ ss) ordered = (starts_above s.start s.end ss ordered.1 ordered.2, starts_ascend s.end ss ordered.2)
