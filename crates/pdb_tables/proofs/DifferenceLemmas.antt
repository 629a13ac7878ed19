-- What `ending_after`, `range_without` and `difference` make of lists of runs.
use Rattle.std.proofs.Common.{◌≡◌, ℕ, ◌+◌, ◌<◌, ◌≤◌, Bool, true, false, not, ◌||◌, ◌&&◌, List, [], ◌∷◌, ◌++◌, max}
use Rattle.std.proofs.Common.{append_assoc, refl, sym, ◌∙◌, arith, inl, inr}
use Rattle.std.proofs.lemmas.Bool.{cases_lt, lt-ltb, le-ltb, lt-leb, le-leb}
use Rattle.std.proofs.lemmas.Bool.Decides.{nat_tests}
use Rattle.pdb_tables.specs.RangeSet.{is_within, has, IsRunsFrom}
use Rattle.pdb_tables.specs.Runs.{ending_after, one_or_none, range_without, difference}
use Rattle.pdb_tables.proofs.HasLemmas.{within_yes, within_below, within_above, within_empty, has-append, has_below}
use Rattle.pdb_tables.proofs.RunLemmas.{runs_lower, runs_rest}

-- the runs that go past a bound, and those after them, are runs
pub IsRunsFrom-ending_after : (n bound : ℕ) (runs : List (ℕ × ℕ)) → IsRunsFrom n runs
    → IsRunsFrom n (ending_after bound runs)
IsRunsFrom-ending_after n bound [] ordered = tt
IsRunsFrom-ending_after n bound ((lo, hi) ∷ runs) ordered =
    elim (cases_lt bound hi) [
      | inl past ↦ rw (lt-leb hi bound past) ordered
      | inr ended ↦ rw (le-leb hi bound ended)
          (IsRunsFrom-ending_after n bound runs (runs_rest n (lo, hi) runs ordered))
    ]

-- they hold the same numbers from the bound on
pub has-ending_after : (bound x : ℕ) (runs : List (ℕ × ℕ)) → bound ≤ x → has (ending_after bound runs) x ≡ has runs x
has-ending_after bound x [] from = refl
has-ending_after bound x ((lo, hi) ∷ runs) from =
    elim (cases_lt bound hi) [
      | inl past ↦ rw (lt-leb hi bound past)
      | inr ended ↦ rw (le-leb hi bound ended, within_above lo hi x (omega arith)) (has-ending_after bound x runs from)
    ]

-- one range holds the numbers within it
has-one_or_none : (lo hi x : ℕ) → has (one_or_none lo hi) x ≡ is_within lo hi x
has-one_or_none lo hi x =
    elim (cases_lt lo hi) [
      | inl some ↦ rw (lt-ltb lo hi some) (grind arith)
      | inr empty ↦ rw (le-ltb lo hi empty) (sym (within_empty lo hi x empty))
    ]

-- where the others begin at hi or later, they take nothing away
whole : (n lo hi x : ℕ) (others : List (ℕ × ℕ)) → hi ≤ n → IsRunsFrom n others
    → is_within lo hi x ≡ (is_within lo hi x && not (has others x))
whole n lo hi x others past ordered =
    elim (cases_lt x n) [
      | inl below ↦ rw (has_below x n others below ordered) (grind arith)
      | inr above ↦ rw (within_above lo hi x (omega arith))
    ]

-- an other that begins before hi splits the range in what is below it and what is past it
split : (lo hi start end x : ℕ) (rest : Bool) → start < hi → start < end → (x < end → rest ≡ false)
    → (is_within lo start x || (is_within (max lo end) hi x && not rest))
    ≡ (is_within lo hi x && not (is_within start end x || rest))
split lo hi start end x rest a b c =
    elim (cases_lt x start) [
      | inl below ↦
          rw (c (omega arith), within_below start end x below, within_below (max lo end) hi x (omega arith))
          (grind (arith, nat_tests))
      | inr from ↦ elim (cases_lt x end) [
        | inl inside ↦
            rw (
              within_above lo start x from,
              within_yes start end x from inside,
              within_below (max lo end) hi x
                  (omega arith),
            ) (grind arith)
        | inr past ↦ rw (within_above lo start x from, within_above start end x past) (grind (arith, nat_tests))
      ]
    ]

-- what is left of the range holds what is within it and not in the others
pub has-range_without : (n lo hi x : ℕ) (others : List (ℕ × ℕ)) → IsRunsFrom n others
    → has (range_without lo hi others) x ≡ (is_within lo hi x && not (has others x))
has-range_without n lo hi x [] ordered = has-one_or_none lo hi x ∙ grind arith
has-range_without n lo hi x ((start, end) ∷ others) ordered =
    elim (cases_lt start hi) [
      | inl before ↦ rw (
        lt-leb hi start before,
        has-append (one_or_none lo start) (range_without (max lo end) hi others) x,
        has-one_or_none lo start x,
        has-range_without (end + 1) (max lo end) hi x others ordered.2,
      )
          (split lo hi start end x (has others x) before ordered.1
          (λ below. has_below x (end + 1) others (omega arith) ordered.2))
      | inr past ↦ rw (le-leb hi start past, has-one_or_none lo hi x)
          (whole start lo hi x ((start, end) ∷ others) past (omega arith, ordered.1, ordered.2))
    ]

-- one range and later runs, with a number left out between them, are runs
IsRunsFrom-one_or_none : (n lo hi : ℕ) (later : List (ℕ × ℕ)) → n ≤ lo → (lo < hi → IsRunsFrom (hi + 1) later)
    → IsRunsFrom n later → IsRunsFrom n (one_or_none lo hi ++ later)
IsRunsFrom-one_or_none n lo hi later from some none =
    elim (cases_lt lo hi) [
      | inl below ↦ rw (lt-ltb lo hi below) (from, below, some below)
      | inr empty ↦ rw (le-ltb lo hi empty) none
    ]

-- what is left of the range and later runs are runs
pub IsRunsFrom-range_without : (n k lo hi : ℕ) (others later : List (ℕ × ℕ)) → n ≤ lo → n ≤ hi + 1 → IsRunsFrom k others
    → IsRunsFrom (hi + 1) later → IsRunsFrom n (range_without lo hi others ++ later)
IsRunsFrom-range_without n k lo hi [] later from to ordered rest =
    IsRunsFrom-one_or_none n lo hi later from (λ _. rest) (runs_lower n (hi + 1) later to rest)
IsRunsFrom-range_without n k lo hi ((start, end) ∷ others) later from to ordered rest =
    elim (cases_lt start hi) [
      | inl before ↦ rw (
        lt-leb hi start before,
        append_assoc (one_or_none lo start)
            (range_without (max lo end) hi others) later,
      )
          (IsRunsFrom-one_or_none n lo start (range_without (max lo end) hi others ++ later) from
          (λ some. IsRunsFrom-range_without (start + 1) (end + 1) (max lo end) hi others later (omega arith)
          (omega arith) ordered.2 rest)
          (IsRunsFrom-range_without n (end + 1) (max lo end) hi others later (omega arith) to ordered.2 rest))
      | inr past ↦ rw (le-leb hi start past)
          (IsRunsFrom-one_or_none n lo hi later from (λ _. rest) (runs_lower n (hi + 1) later to rest))
    ]

-- what is left of runs is runs
pub IsRunsFrom-difference : (n k : ℕ) (runs others : List (ℕ × ℕ)) → IsRunsFrom n runs → IsRunsFrom k others
    → IsRunsFrom n (difference runs others)
IsRunsFrom-difference n k [] others p q = tt
IsRunsFrom-difference n k ((lo, hi) ∷ runs) others p q =
    let left = IsRunsFrom-ending_after k lo others q in
    IsRunsFrom-range_without n k lo hi (ending_after lo others) (difference runs (ending_after lo others)) p.0
    (omega arith) left
    (IsRunsFrom-difference (hi + 1) k runs (ending_after lo others) p.2 left)

-- a number is taken away from a run and from the runs after it, or from none
shared_out : (first others runs : Bool)
    → ((first && not others) || (runs && not others)) ≡ ((first || runs) && not others)
shared_out true others true = grind arith
shared_out true others false = grind arith
shared_out false others runs = refl

-- what is left holds the numbers of the runs that aren't in the others
pub has-difference : (n k x : ℕ) (runs others : List (ℕ × ℕ)) → IsRunsFrom n runs → IsRunsFrom k others
    → has (difference runs others) x ≡ (has runs x && not (has others x))
has-difference n k x [] others p q = refl
has-difference n k x ((lo, hi) ∷ runs) others p q =
    let left = IsRunsFrom-ending_after k lo others q in
    rw (
      has-append (range_without lo hi (ending_after lo others)) (difference runs (ending_after lo others)) x,
      has-range_without k lo hi x (ending_after lo others) left,
      has-difference (hi + 1) k x runs (ending_after lo others) p.2 left,
    )
    (elim (cases_lt x lo) [
      | inl below ↦ rw (within_below lo hi x below, has_below x (hi + 1) runs (omega arith) p.2)
      | inr from ↦ rw (has-ending_after lo x others from) (shared_out (is_within lo hi x) (has others x) (has runs x))
    ])
