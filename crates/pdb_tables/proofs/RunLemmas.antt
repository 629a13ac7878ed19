-- What leaves a list of ranges a list of runs.
use Rattle.std.proofs.Common.{◌≡◌, ℕ, suc, ◌+◌, ◌-◌, ◌<◌, ◌≤◌, ◌||◌, List, [], ◌∷◌, ◌++◌, length, take, set, max, Some}
use Rattle.std.proofs.Common.{sym, ◌∙◌, subst, append_assoc, drop-cons, arith}
use Rattle.std.specs.List.{slice_get}
use Rattle.std.proofs.Math.ListN.{drop_of_length-le}
use Rattle.std.proofs.lemmas.List.{take-append-drop, length-take, set_at}
use Rattle.std.proofs.lemmas.Option.{get_or_from_slice_get, slice_get_within}
use Rattle.std.proofs.lemmas.Bool.Decides.{nat_tests}
use Rattle.pdb_tables.specs.RangeSet.{is_within, has, IsRunsFrom}
use Rattle.pdb_tables.proofs.HasLemmas.{has-append}

-- runs that begin at n or later begin at any lower number or later
pub runs_lower : (m n : ℕ) (runs : List (ℕ × ℕ)) → m ≤ n → IsRunsFrom n runs → IsRunsFrom m runs
runs_lower m n [] lower ordered = tt
runs_lower m n (run ∷ runs) lower ordered = (omega arith, ordered.1, ordered.2)

-- the runs after the first begin where it begins, or later
pub runs_rest : (n : ℕ) (run : ℕ × ℕ) (runs : List (ℕ × ℕ)) → IsRunsFrom n (run ∷ runs) → IsRunsFrom n runs
runs_rest n run runs ordered = runs_lower n (run.1 + 1) runs (omega arith) ordered.2

-- the last run may give way to any runs that begin where it begins, or later
runs_new_end : (n : ℕ) (front end : List (ℕ × ℕ)) (run : ℕ × ℕ) → (run.0 < run.1 → IsRunsFrom run.0 end)
    → IsRunsFrom n (front ++ run ∷ []) → IsRunsFrom n (front ++ end)
runs_new_end n [] end run new ordered = runs_lower n run.0 end ordered.0 (new ordered.1)
runs_new_end n (first ∷ front) end run new ordered =
    (ordered.0, ordered.1, runs_new_end (first.1 + 1) front end run new ordered.2)

-- a list that has a last element has one element more than its place
pub length_from_last : (runs : List (ℕ × ℕ)) (run : ℕ × ℕ) → slice_get runs (length runs - 1) ≡ Some run
    → length runs ≡ (length runs - 1) + 1
length_from_last runs run last = omega (arith, slice_get_within runs (length runs - 1) run last)

-- a list whose last element is known is what is before it, and that element
split_last : (runs : List (ℕ × ℕ)) (i : ℕ) (run : ℕ × ℕ) → slice_get runs i ≡ Some run → length runs ≡ i + 1
    → (front : List (ℕ × ℕ)) × (runs ≡ front ++ run ∷ []) × (length front ≡ i)
split_last runs i run last len =
    let within : i < length runs = omega arith in (
      take i runs,
      sym (take-append-drop i runs)
          ∙ rw (
            drop-cons runs i run,
            get_or_from_slice_get runs i run run last,
            drop_of_length-le runs {i = suc i}
                (omega arith),
          ),
      length-take i runs ∙ omega arith,
    )

-- a range past the last run may come behind it
pub runs_push : (n i lo hi : ℕ) (run : ℕ × ℕ) (runs : List (ℕ × ℕ)) → slice_get runs i ≡ Some run → length runs ≡ i + 1
    → run.1 < lo → lo < hi → IsRunsFrom n runs → IsRunsFrom n (runs ++ (lo, hi) ∷ [])
runs_push n i lo hi run runs last len past some ordered =
    let split = split_last runs i run last len in
    subst (λ (rs : List (ℕ × ℕ)). IsRunsFrom n (rs ++ (lo, hi) ∷ [])) (sym split.1)
    (rw (append_assoc split.0 (run ∷ []) ((lo, hi) ∷ []))
    (runs_new_end n split.0 (run ∷ (lo, hi) ∷ []) run (λ before. (omega arith, before, (omega arith, some, tt)))
    (subst (λ (rs : List (ℕ × ℕ)). IsRunsFrom n rs) split.1 ordered)))

-- the last run may end later
pub runs_grow : (n i hi : ℕ) (run : ℕ × ℕ) (runs : List (ℕ × ℕ)) → slice_get runs i ≡ Some run → length runs ≡ i + 1
    → IsRunsFrom n runs → IsRunsFrom n (set runs i (run.0, max run.1 hi))
runs_grow n i hi run runs last len ordered =
    let split = split_last runs i run last len in
    subst (λ (rs : List (ℕ × ℕ)). IsRunsFrom n (set rs i (run.0, max run.1 hi))) (sym split.1)
    (rw (set_at split.0 run [] (run.0, max run.1 hi) i split.2)
    (runs_new_end n split.0 ((run.0, max run.1 hi) ∷ []) run (λ before. (omega arith, omega arith, tt))
    (subst (λ (rs : List (ℕ × ℕ)). IsRunsFrom n rs) split.1 ordered)))

-- a range that begins within a run, or where it ends, lengthens it
within_grown : (start end lo hi x : ℕ) → start ≤ lo → lo ≤ end → lo < hi
    → is_within start (max end hi) x ≡ (is_within start end x || is_within lo hi x)
within_grown start end lo hi x a b c = grind (arith, nat_tests)

-- when the last run ends later, the numbers up to its new end come in
pub has_grow : (i lo hi x : ℕ) (run : ℕ × ℕ) (runs : List (ℕ × ℕ)) → slice_get runs i ≡ Some run → length runs ≡ i + 1
    → run.0 ≤ lo → lo ≤ run.1 → lo < hi → has (set runs i (run.0, max run.1 hi)) x ≡ (has runs x || is_within lo hi x)
has_grow i lo hi x run runs last len from near some =
    let split = split_last runs i run last len in
    subst (λ (rs : List (ℕ × ℕ)). has (set rs i (run.0, max run.1 hi)) x ≡ (has rs x || is_within lo hi x))
    (sym split.1)
    (rw (
      set_at split.0 run [] (run.0, max run.1 hi) i split.2,
      has-append split.0 ((run.0, max run.1 hi) ∷ []) x,
      has-append split.0 (run ∷ []) x,
      within_grown run.0 run.1 lo hi x from near some,
    )
    (grind arith))
