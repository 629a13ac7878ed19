-- Two lists of runs that hold the same numbers are one list.
use Rattle.std.proofs.Common.{◌≡◌, ℕ, ◌+◌, ◌≤◌, true, List, [], ◌∷◌, refl, sym, ◌∙◌, arith, inl, inr}
use Rattle.std.proofs.lemmas.Bool.{cases_lt}
use Rattle.pdb_tables.specs.RangeSet.{has, IsRunsFrom}
use Rattle.pdb_tables.proofs.HasLemmas.{has_below, has_start, has_end, within_yes, within_above}

-- the first list can't begin before the second
start_le : (m n lo hi start end : ℕ) (a b : List (ℕ × ℕ)) → IsRunsFrom m ((lo, hi) ∷ a)
    → IsRunsFrom n ((start, end) ∷ b)
    → ((x : ℕ) → has ((lo, hi) ∷ a) x ≡ has ((start, end) ∷ b) x) → start ≤ lo
start_le m n lo hi start end a b p q same =
    elim (cases_lt lo start) [
      | inl below ↦
          let inside = has_start m lo hi a p in
          let ordered : IsRunsFrom start ((start, end) ∷ b) = (omega arith, q.1, q.2) in
          let outside = has_below lo start ((start, end) ∷ b) below ordered in
          let equal = same lo in
          absurd cc
      | inr above ↦ above
    ]

-- with one start, the first run of the first list can't end before that of the second
end_le : (m n lo hi start end : ℕ) (a b : List (ℕ × ℕ)) → lo ≡ start → IsRunsFrom m ((lo, hi) ∷ a)
    → IsRunsFrom n ((start, end) ∷ b) → ((x : ℕ) → has ((lo, hi) ∷ a) x ≡ has ((start, end) ∷ b) x) → end ≤ hi
end_le m n lo hi start end a b starts p q same =
    elim (cases_lt hi end) [
      | inl below ↦
          let outside = has_end m lo hi a p in
          let inside : has ((start, end) ∷ b) hi ≡ true = rw (within_yes start end hi (omega arith) below) in
          let equal = same hi in
          absurd cc
      | inr above ↦ above
    ]

-- without their first runs, which end alike, the lists still hold the same numbers
same_rest : (m n lo hi start end : ℕ) (a b : List (ℕ × ℕ)) → hi ≡ end → IsRunsFrom m ((lo, hi) ∷ a)
    → IsRunsFrom n ((start, end) ∷ b) → ((x : ℕ) → has ((lo, hi) ∷ a) x ≡ has ((start, end) ∷ b) x)
    → (x : ℕ) → has a x ≡ has b x
same_rest m n lo hi start end a b ends p q same x =
    elim (cases_lt x (hi + 1)) [
      | inl below ↦ has_below x (hi + 1) a below p.2 ∙ sym (has_below x (end + 1) b (omega arith) q.2)
      | inr above ↦ rw (within_above lo hi x (omega arith), within_above start end x (omega arith)) at (same x)
    ]

-- a set of numbers has one list of runs
pub same_runs : (m n : ℕ) (a b : List (ℕ × ℕ)) → IsRunsFrom m a → IsRunsFrom n b → ((x : ℕ) → has a x ≡ has b x) → a ≡ b
same_runs m n [] [] p q same = refl
same_runs m n [] ((start, end) ∷ b) p q same =
    let inside = has_start n start end b q in let equal = same start in absurd cc
same_runs m n ((lo, hi) ∷ a) [] p q same =
    let inside = has_start m lo hi a p in let equal = same lo in absurd cc
same_runs m n ((lo, hi) ∷ a) ((start, end) ∷ b) p q same =
    let back = λ (x : ℕ). sym (same x) in
    let starts : lo ≡ start = omega
    (arith, start_le m n lo hi start end a b p q same, start_le n m start end lo hi b a q p back) in
    let ends : hi ≡ end =
    omega (
      arith,
      end_le m n lo hi start end a b starts p q same,
      end_le n m start end lo hi b a
          (sym starts) q p back,
    ) in
    let rest = same_runs (hi + 1) (end + 1) a b p.2 q.2 (same_rest m n lo hi start end a b ends p q same) in
    rw (starts, ends, rest)
