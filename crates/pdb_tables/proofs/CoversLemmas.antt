-- `covers` answers whether one list of runs holds all numbers of another.
use Rattle.std.proofs.Common.{◌≡◌, ℕ, ◌+◌, ◌<◌, ◌≤◌, true, leb, List, [], ◌∷◌, ◌↔◌, refl, ◌∙◌, arith, inl, inr}
use Rattle.std.proofs.lemmas.Bool.{cases_lt, lt-leb, le-leb, or_cases, or_left, or_right, and_parts, and_from}
use Rattle.std.proofs.lemmas.Bool.Decides.{nat_tests}
use Rattle.pdb_tables.specs.RangeSet.{is_within, has, IsRunsFrom}
use Rattle.pdb_tables.specs.Runs.{ending_after, starts_with_all, covers}
use Rattle.pdb_tables.proofs.HasLemmas.{within_yes, within_above, has_below, has_end}
use Rattle.pdb_tables.proofs.DifferenceLemmas.{IsRunsFrom-ending_after, has-ending_after}

-- what the runs past a bound hold, the runs hold
has_from_ending_after : (bound x : ℕ) (runs : List (ℕ × ℕ)) → has (ending_after bound runs) x ≡ true → has runs x ≡ true
has_from_ending_after bound x [] inside = inside
has_from_ending_after bound x ((lo, hi) ∷ runs) inside =
    elim (cases_lt bound hi) [
      | inl past ↦ rw (lt-leb hi bound past) at inside
      | inr ended ↦ or_right (is_within lo hi x) (has runs x)
          (has_from_ending_after bound x runs (rw (le-leb hi bound ended) at inside))
    ]

-- a range within the first run is within the runs
has_from_first : (lo hi x : ℕ) (runs : List (ℕ × ℕ)) → starts_with_all lo hi runs ≡ true → is_within lo hi x ≡ true
    → has runs x ≡ true
has_from_first lo hi x [] all within = absurd cc
has_from_first lo hi x ((start, end) ∷ runs) all within =
    let inside : is_within start end x ≡ true = grind (arith, nat_tests) in
    or_left (is_within start end x) (has runs x) inside

-- where `covers` says so, the runs hold what the others hold
pub has_from_covers : (x : ℕ) (runs others : List (ℕ × ℕ)) → covers runs others ≡ true → has others x ≡ true
    → has runs x ≡ true
has_from_covers x runs [] all inside = absurd cc
has_from_covers x runs ((lo, hi) ∷ others) all inside =
    let both = and_parts (starts_with_all lo hi (ending_after lo runs)) (covers (ending_after lo runs) others) all in
    has_from_ending_after lo x runs (elim (or_cases (is_within lo hi x) (has others x) inside) [
      | inl first ↦ has_from_first lo hi x (ending_after lo runs) both.0 first
      | inr later ↦ has_from_covers x (ending_after lo runs) others both.1 later
    ])

-- runs that hold all of a range hold it in one run, the first that goes past its start
first_from_has : (n lo hi : ℕ) (runs : List (ℕ × ℕ)) → lo < hi → IsRunsFrom n runs
    → ((x : ℕ) → lo ≤ x → x < hi → has runs x ≡ true) → starts_with_all lo hi (ending_after lo runs) ≡ true
first_from_has n lo hi [] some ordered all = let none = all lo (omega arith) some in absurd cc
first_from_has n lo hi ((start, end) ∷ runs) some ordered all =
    elim (cases_lt lo end) [
      | inl past ↦ rw (lt-leb end lo past) (and_from (leb start lo) (leb hi end)
          (elim (cases_lt lo start) [
            | inl below ↦
                let inside = all lo (omega arith) some in
                let from_start : IsRunsFrom start ((start, end) ∷ runs) = (omega arith, ordered.1, ordered.2) in
                let outside = has_below lo start ((start, end) ∷ runs) below from_start in
                absurd cc
            | inr from ↦ le-leb start lo from
          ])
          (elim (cases_lt end hi) [
            | inl short ↦
                let inside = all end (omega arith) short in
                let outside = has_end n start end runs ordered in
                absurd cc
            | inr long ↦ le-leb hi end long
          ]))
      | inr ended ↦ rw (le-leb end lo ended) (first_from_has (end + 1) lo hi runs some ordered.2
          (λ x from before. rw (within_above start end x (omega arith)) at (all x from before)))
    ]

-- where the runs hold what the others hold, `covers` says so
pub covers_from_has : (m n : ℕ) (runs others : List (ℕ × ℕ)) → IsRunsFrom m runs → IsRunsFrom n others
    → ((x : ℕ) → has others x ≡ true → has runs x ≡ true) → covers runs others ≡ true
covers_from_has m n runs [] p q all = refl
covers_from_has m n runs ((lo, hi) ∷ others) p q all =
    and_from (starts_with_all lo hi (ending_after lo runs)) (covers (ending_after lo runs) others)
    (first_from_has m lo hi runs q.1 p
    (λ x from before. all x (or_left (is_within lo hi x) (has others x) (within_yes lo hi x from before))))
    (covers_from_has m (hi + 1) (ending_after lo runs) others (IsRunsFrom-ending_after m lo runs p) q.2
    (λ x inside. elim (cases_lt x (hi + 1)) [
      | inl below ↦ let outside = has_below x (hi + 1) others below q.2 in absurd cc
      | inr past ↦ has-ending_after lo x runs (omega arith)
          ∙ all x (or_right (is_within lo hi x) (has others x) inside)
    ]))

-- `covers` says whether the runs hold what the others hold
pub covers_iff : (m n : ℕ) (runs others : List (ℕ × ℕ)) → IsRunsFrom m runs → IsRunsFrom n others
    → (covers runs others ≡ true) ↔ ((x : ℕ) → has others x ≡ true → has runs x ≡ true)
covers_iff m n runs others p q =
    (λ all x inside. has_from_covers x runs others all inside, covers_from_has m n runs others p q)
