-- The runs of the numbers in ranges.
use Rattle.std.proofs.Common.{◌≡◌, ◌∙◌, ℕ, not, ◌&&◌, List, [], ◌∷◌, sym, refl, arith, inl, inr}
use Rattle.std.proofs.lemmas.Bool.{cases_lt, lt-ltb, le-ltb}
use Rattle.std.proofs.Math.Bool.{or_comm}
use Rattle.pdb_tables.specs.RangeSet.{is_within, has, IsRunsFrom}
use Rattle.pdb_tables.proofs.HasLemmas.{within_empty}
use Rattle.pdb_tables.proofs.WithRangeLemmas.{IsRunsFrom-with_range, has-with_range}
use Rattle.pdb_tables.proofs.DifferenceLemmas.{IsRunsFrom-difference, has-difference}
use Rattle.pdb_tables.proofs.SameRuns.{same_runs}
use Rattle.pdb_tables.specs.Runs.{runs_of, missing_runs}

-- the runs of ranges are runs
pub IsRunsFrom-runs_of : (ranges : List (ℕ × ℕ)) → IsRunsFrom 0 (runs_of ranges)
IsRunsFrom-runs_of [] = tt
IsRunsFrom-runs_of ((lo, hi) ∷ ranges) =
    elim (cases_lt lo hi) [
      | inl some ↦ rw (lt-ltb lo hi some)
          (IsRunsFrom-with_range 0 lo hi (runs_of ranges) (omega arith) some (IsRunsFrom-runs_of ranges))
      | inr empty ↦ rw (le-ltb lo hi empty) (IsRunsFrom-runs_of ranges)
    ]

-- they hold the numbers of the ranges
pub has-runs_of : (ranges : List (ℕ × ℕ)) (x : ℕ) → has (runs_of ranges) x ≡ has ranges x
has-runs_of [] x = refl
has-runs_of ((lo, hi) ∷ ranges) x =
    elim (cases_lt lo hi) [
      | inl some ↦ rw (
        lt-ltb lo hi some,
        has-with_range 0 lo hi x (runs_of ranges) some (IsRunsFrom-runs_of ranges),
        has-runs_of ranges x,
      )
          (or_comm (has ranges x) (is_within lo hi x))
      | inr empty ↦ rw (le-ltb lo hi empty, within_empty lo hi x empty) (has-runs_of ranges x)
    ]

-- what is missing is runs
pub IsRunsFrom-missing_runs : (ranges others : List (ℕ × ℕ)) → IsRunsFrom 0 (missing_runs ranges others)
IsRunsFrom-missing_runs ranges others =
    IsRunsFrom-difference 0 0 (runs_of ranges) (runs_of others) (IsRunsFrom-runs_of ranges) (IsRunsFrom-runs_of others)

-- what is missing is in the ranges, and not in the others
pub has-missing_runs : (ranges others : List (ℕ × ℕ)) (x : ℕ)
    → has (missing_runs ranges others) x ≡ (has ranges x && not (has others x))
has-missing_runs ranges others x =
    rw (
      has-difference 0 0 x (runs_of ranges) (runs_of others) (IsRunsFrom-runs_of ranges) (IsRunsFrom-runs_of others),
      has-runs_of ranges x,
      has-runs_of others x,
    ) refl

-- runs of those numbers are the missing runs
pub missing_runs_are : (ranges others runs : List (ℕ × ℕ)) → IsRunsFrom 0 runs
    → ((x : ℕ) → has runs x ≡ (has ranges x && not (has others x))) → runs ≡ missing_runs ranges others
missing_runs_are ranges others runs ordered same =
    same_runs 0 0 runs (missing_runs ranges others) ordered (IsRunsFrom-missing_runs ranges others)
    (λ x. same x ∙ sym (has-missing_runs ranges others x))
