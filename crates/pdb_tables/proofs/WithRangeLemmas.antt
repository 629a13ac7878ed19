-- What `with_range` makes of a list of runs.
use Rattle.std.proofs.Common.{◌≡◌, ℕ, ◌+◌, ◌<◌, ◌≤◌, false, ◌||◌, List, [], ◌∷◌, min, max, sym, arith, inl, inr}
use Rattle.std.proofs.lemmas.Bool.{cases_lt, lt-ltb, le-ltb}
use Rattle.std.proofs.Math.Bool.{or_assoc, or_comm}
use Rattle.pdb_tables.specs.RangeSet.{is_within, has, IsRunsFrom}
use Rattle.pdb_tables.specs.Runs.{with_range}
use Rattle.pdb_tables.proofs.HasLemmas.{within_joined}
use Rattle.pdb_tables.proofs.RunLemmas.{runs_lower}

-- with a range put in, the runs are still runs
pub IsRunsFrom-with_range : (n lo hi : ℕ) (runs : List (ℕ × ℕ)) → n ≤ lo → lo < hi → IsRunsFrom n runs
    → IsRunsFrom n (with_range lo hi runs)
IsRunsFrom-with_range n lo hi [] from some ordered = (from, some, tt)
IsRunsFrom-with_range n lo hi ((start, end) ∷ runs) from some ordered =
    elim (cases_lt end lo) [
      | inl before ↦ rw (lt-ltb end lo before)
          (ordered.0, ordered.1, IsRunsFrom-with_range (end + 1) lo hi runs (omega arith) some ordered.2)
      | inr near ↦ rw (le-ltb end lo near) (elim (cases_lt hi start) [
        | inl past ↦ rw (lt-ltb hi start past) (from, some, (omega arith, ordered.1, ordered.2))
        | inr touching ↦ rw (le-ltb hi start touching)
            (IsRunsFrom-with_range n (min lo start) (max hi end) runs (omega arith) (omega arith)
            (runs_lower n (end + 1) runs (omega arith) ordered.2))
      ])
    ]

-- the numbers of the range come in, and no other
pub has-with_range : (n lo hi x : ℕ) (runs : List (ℕ × ℕ)) → lo < hi → IsRunsFrom n runs
    → has (with_range lo hi runs) x ≡ (has runs x || is_within lo hi x)
has-with_range n lo hi x [] some ordered = or_comm (is_within lo hi x) false
has-with_range n lo hi x ((start, end) ∷ runs) some ordered =
    elim (cases_lt end lo) [
      | inl before ↦ rw (lt-ltb end lo before)
          (rw (has-with_range (end + 1) lo hi x runs some ordered.2)
          (sym (or_assoc (is_within start end x) (has runs x) (is_within lo hi x))))
      | inr near ↦ rw (le-ltb end lo near) (elim (cases_lt hi start) [
        | inl past ↦ rw (lt-ltb hi start past) (or_comm (is_within lo hi x) (is_within start end x || has runs x))
        | inr touching ↦ rw (le-ltb hi start touching)
            (let bigger = has-with_range (end + 1) (min lo start) (max hi end) x runs (omega arith) ordered.2 in
            let joined = within_joined lo hi start end x (omega arith) (omega arith) touching near in
            grind arith)
      ])
    ]
