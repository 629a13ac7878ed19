-- Whether each byte of a claim counts for its module is seen at the interval where it begins and at the next one.
use Rattle.std.proofs.Common.{◌≡◌, ◌∙◌, ℕ, zero, suc, ◌+◌, ◌-◌, ◌<◌, ◌≤◌, ◌⊎◌, inl, inr, Bool, true, false, cond, List}
use Rattle.std.proofs.Common.{[]}
use Rattle.std.proofs.Common.{◌∷◌, Option, Some, None, refl, sym, ap, subst, arith}
use Rattle.std.specs.Prelude.{nat_lt, not, find}
use Rattle.std.specs.List.{list_all, range_with_len}
use Rattle.std.specs.Ordering.{nat_cmp}
use Rattle.std.proofs.lemmas.Bool.Decides.{nat_tests}
use Rattle.std.proofs.lemmas.List.Folds.{list_all_at}
use Rattle.std.proofs.lemmas.List.FromFn.{get_or-range_with_len, length-range_with_len}
use Rattle.pdb_tables.specs.Keyed.{is_above, KeysAscend}
use Rattle.pdb_tables.specs.Last.{last_over}
use Rattle.pdb_tables.proofs.NumberLemmas.{cases_lt, less_test}
use Rattle.pdb_repairs.specs.Claims.{is_same_module, owner, owns_all, size_of}
use Rattle.pdb_repairs.specs.Intervals.{AreOwners, Differ, begins_by, ends_before, is_of, module_of}
use Rattle.pdb_repairs.specs.declared.claims.Claim.{Claim}
use Rattle.pdb_repairs.specs.declared.intervals.Interval.{Interval}
use Rattle.pdb_repairs.proofs.IntervalLemmas.{AllLater, begins, begins_later, of_module, same_itself, same_module}

-- whether an interval begins after a byte
abbrev pub is_after : ℕ → Interval → Bool
is_after x i = is_above nat_cmp (λ (j : Interval). j.start) x i

-- an interval begins after a byte, or at it or before it
after_cases : (x : ℕ) (i : Interval)
    → ((is_after x i ≡ true) × (x < i.start)) ⊎ ((is_after x i ≡ false) × (i.start ≤ x))
after_cases x i = by_order (cases_lt x i.start) where
  by_order : ((nat_lt x i.start ≡ true) × (x < i.start)) ⊎ ((nat_lt x i.start ≡ false) × (i.start ≤ x))
      → ((is_after x i ≡ true) × (x < i.start)) ⊎ ((is_after x i ≡ false) × (i.start ≤ x))
  by_order (inl after) = inl (less_test x i.start ∙ after.0, after.1)
  by_order (inr by) = inr (less_test x i.start ∙ by.0, by.1)

-- of intervals that begin after one that begins after a byte none begins at the byte or before it
none_by : (x : ℕ) (i : Interval) (before : Option Interval) (is : List Interval) → x < i.start → AllLater i is
    → last_over (begins_by x) before is ≡ before
none_by x i before [] after all = refl
none_by x i before (j ∷ is) after all =
    let h : nat_lt i.start j.start ≡ true = sym (less_test i.start j.start) ∙ all.0 in
    let later : x < j.start = grind (arith, nat_tests) in
    ap (λ b. last_over (begins_by x) (cond b (Some j) before) is) (begins_later x j later)
    ∙ none_by x i before is after all.1

-- a byte lies ahead of an interval, if there is one
abbrev pub IsAhead : ℕ → Option Interval → Type 0
IsAhead x None = Unit {0}
IsAhead x (Some next) = x < next.start

-- up to the next interval the last one stays
pub same_last : (s x : ℕ) (before : Option Interval) (is : List Interval) → s ≤ x
    → KeysAscend nat_cmp (λ (j : Interval). j.start) is → IsAhead x (find (is_after s) is)
    → last_over (begins_by x) before is ≡ last_over (begins_by s) before is
same_last s x before [] up ascend ahead = refl
same_last s x before (i ∷ is) up ascend ahead =
    by_place (after_cases s i) (λ next. same_last s x (Some i) is up ascend.1 next) ahead
  where
    Same : Option Interval → Option Interval → Type 0
    Same a b = last_over (begins_by x) a is ≡ last_over (begins_by s) b is

    by_place : ((is_after s i ≡ true) × (s < i.start)) ⊎ ((is_after s i ≡ false) × (i.start ≤ s))
        → (IsAhead x (find (is_after s) is) → Same (Some i) (Some i))
        → IsAhead x (find (is_after s) (i ∷ is))
        → Same (cond (begins_by x i) (Some i) before) (cond (begins_by s i) (Some i) before)
    by_place (inl after) rest next =
        let here : x < i.start = subst (λ b. IsAhead x (cond b (Some i) (find (is_after s) is))) after.0 next in
        ap (λ b. last_over (begins_by x) (cond b (Some i) before) is) (begins_later x i here)
        ∙ none_by x i before is here ascend.0
        ∙ sym (ap (λ b. last_over (begins_by s) (cond b (Some i) before) is) (begins_later s i after.1)
        ∙ none_by s i before is after.1 ascend.0)
    by_place (inr by) rest next =
        ap (λ b. last_over (begins_by x) (cond b (Some i) before) is) (begins x i (omega (arith, by.1)))
        ∙ rest (subst (λ b. IsAhead x (cond b (Some i) (find (is_after s) is))) by.0 next)
        ∙ sym (ap (λ b. last_over (begins_by s) (cond b (Some i) before) is) (begins s i by.1))

-- what is known of the first interval that begins after a byte
pub record IsNext (s : ℕ) (before : Option Interval) (is : List Interval) (next : Interval) : Type 0 where
  pub after : s < next.start
  pub last : last_over (begins_by next.start) before is ≡ Some next
  pub differs : is_of (last_over (begins_by s) before is) next.module_index ≡ false

-- where it begins it is the last one, and it isn't of the module of the last one at the byte
pub next_is : (s : ℕ) (before : Option Interval) (is : List Interval) (next : Interval)
    → KeysAscend nat_cmp (λ (j : Interval). j.start) is → Differ before is → find (is_after s) is ≡ Some next
    → IsNext s before is next
next_is s before [] next ascend differ found = absurd (cc)
next_is s before (i ∷ is) next ascend differ found =
    by_place (after_cases s i) (λ rest. next_is s (Some i) is next ascend.1 differ.1 rest) found
  where
    by_place : ((is_after s i ≡ true) × (s < i.start)) ⊎ ((is_after s i ≡ false) × (i.start ≤ s))
        → (find (is_after s) is ≡ Some next → IsNext s (Some i) is next)
        → find (is_after s) (i ∷ is) ≡ Some next → IsNext s before (i ∷ is) next
    by_place (inl after) rest found =
        let e : Some i ≡ Some next =
        subst (λ b. cond b (Some i) (find (is_after s) is) ≡ Some next) after.0 found in
        let one : i ≡ next = cc in
        let P : Interval → Type 0 = λ j. IsNext s before (i ∷ is) j in
        let here : IsNext s before (i ∷ is) i = record {
          after = after.1;
          last =
              ap (λ b. last_over (begins_by i.start) (cond b (Some i) before) is) (begins i.start i (omega arith))
              ∙ none_at i is ascend.0;
          differs =
              ap (λ o. is_of o i.module_index)
              (ap (λ b. last_over (begins_by s) (cond b (Some i) before) is) (begins_later s i after.1)
              ∙ none_by s i before is after.1 ascend.0) ∙ differ.0;
        } in
        subst P one here
      where
        none_at : (i : Interval) (js : List Interval) → AllLater i js
            → last_over (begins_by i.start) (Some i) js ≡ Some i
        none_at i [] all = refl
        none_at i (j ∷ js) all =
            let h : nat_lt i.start j.start ≡ true = sym (less_test i.start j.start) ∙ all.0 in
            let later : i.start < j.start = grind (arith, nat_tests) in
            ap (λ b. last_over (begins_by i.start) (cond b (Some j) (Some i)) js) (begins_later i.start j later)
            ∙ none_at i js all.1
    by_place (inr by) rest found =
        let r = rest (subst (λ b. cond b (Some i) (find (is_after s) is) ≡ Some next) by.0 found) in
        record {
          after = r.after;
          last =
              ap (λ b. last_over (begins_by next.start) (cond b (Some i) before) is)
              (begins next.start i (omega (arith, by.1, r.after))) ∙ r.last;
          differs =
              ap (λ o. is_of o next.module_index)
              (ap (λ b. last_over (begins_by s) (cond b (Some i) before) is) (begins s i by.1)) ∙ r.differs;
        }

-- what holds of each number of a range holds of all
pub all_in_range : (p : ℕ → Bool) (a n : ℕ) → ((x : ℕ) → a ≤ x → x < a + n → p x ≡ true)
    → list_all p (range_with_len a n) ≡ true
all_in_range p a zero holds = refl
all_in_range p a (suc n) holds =
    rw (holds a (omega arith) (omega arith))
    (all_in_range p (a + 1) n (λ x low high. holds x (omega (arith, low)) (omega (arith, high))))

-- a number of a range for which a test fails
pub fails_in_range : (p : ℕ → Bool) (a n x : ℕ) → a ≤ x → x < a + n → p x ≡ false
    → list_all p (range_with_len a n) ≡ false
fails_in_range p a n x low high fails =
    list_all_at p (range_with_len a n) (x - a) x (omega (arith, length-range_with_len a n))
    (ap p (get_or-range_with_len a n (x - a) x (omega arith) ∙ (let e : a + (x - a) ≡ x = omega arith in e)) ∙ fails)

-- whether an interval is of a module is whether its module is that one
of_is_same : (o : Option Interval) (m : ℕ) → is_of o (Some m) ≡ is_same_module (module_of o) (Some m)
of_is_same None m = refl
of_is_same (Some i) m = refl

-- a claim that begins in an interval of another module doesn't own all its bytes
pub owns_none : (claims : List Claim) (claim : Claim) (is : List Interval) → claim.start < claim.end
    → AreOwners claims is → is_of (last_over (begins_by claim.start) None is) (Some claim.module_index) ≡ false
    → owns_all claims claim ≡ false
unfolding owns_all
owns_none claims claim is bytes known other =
    fails_in_range (λ x. is_same_module (owner claims x) (Some claim.module_index)) claim.start (size_of claim)
    claim.start (omega arith) (omega arith)
    (ap (λ o. is_same_module o (Some claim.module_index)) (known.owners claim.start)
    ∙ sym (of_is_same (last_over (begins_by claim.start) None is) claim.module_index) ∙ other)

-- a claim whose bytes all lie ahead of the next interval
owns_ahead : (claims : List Claim) (claim : Claim) (is : List Interval) → AreOwners claims is
    → is_of (last_over (begins_by claim.start) None is) (Some claim.module_index) ≡ true
    → ((x : ℕ) → claim.start ≤ x → x < claim.end → IsAhead x (find (is_after claim.start) is))
    → owns_all claims claim ≡ true
unfolding owns_all
owns_ahead claims claim is known here ahead =
    all_in_range (λ x. is_same_module (owner claims x) (Some claim.module_index)) claim.start (size_of claim)
    (λ x low high. ap (λ o. is_same_module o (Some claim.module_index))
    (known.owners x
    ∙ ap module_of (same_last claim.start x None is low known.ascend (ahead x low (omega (arith, low, high))))
    ∙ of_module (last_over (begins_by claim.start) None is) (Some claim.module_index) here)
    ∙ same_itself (Some claim.module_index))

-- a claim that goes on into the next interval doesn't own all its bytes
owns_past : (claims : List Claim) (claim : Claim) (is : List Interval) (next : Interval) → AreOwners claims is
    → is_of (last_over (begins_by claim.start) None is) (Some claim.module_index) ≡ true
    → IsNext claim.start None is next → next.start < claim.end → owns_all claims claim ≡ false
unfolding owns_all
owns_past claims claim is next known here n past =
    let start : claim.start < next.start = n.after in
    fails_in_range (λ x. is_same_module (owner claims x) (Some claim.module_index)) claim.start (size_of claim)
    next.start (omega arith) (omega arith)
    (ap (λ o. is_same_module o (Some claim.module_index)) (known.owners next.start ∙ ap module_of n.last)
    ∙ by_test (is_same_module next.module_index (Some claim.module_index)) refl)
  where
    by_test : (t : Bool) → is_same_module next.module_index (Some claim.module_index) ≡ t
        → is_same_module next.module_index (Some claim.module_index) ≡ false
    by_test true same =
        let e : next.module_index ≡ Some claim.module_index =
        same_module next.module_index (Some claim.module_index) same in
        let d : is_of (last_over (begins_by claim.start) None is) (Some claim.module_index) ≡ false =
        subst (λ o. is_of (last_over (begins_by claim.start) None is) o ≡ false) e n.differs in
        absurd (cc)
    by_test false differs = differs

-- a claim that begins in an interval of its module owns all its bytes, if the next interval begins no earlier than the
-- claim ends
pub owns_until_next : (claims : List Claim) (claim : Claim) (is : List Interval) → claim.start < claim.end
    → AreOwners claims is
    → is_of (last_over (begins_by claim.start) None is) (Some claim.module_index) ≡ true
    → not (ends_before (find (is_after claim.start) is) claim.end) ≡ owns_all claims claim
owns_until_next claims claim is bytes known here = by_next (find (is_after claim.start) is) refl where
  by_next : (o : Option Interval) → find (is_after claim.start) is ≡ o
      → not (ends_before (find (is_after claim.start) is) claim.end) ≡ owns_all claims claim
  by_next None found =
      ap (λ o. not (ends_before o claim.end)) found
      ∙ sym (owns_ahead claims claim is known here (λ x low high. subst (IsAhead x) (sym found) tt))
  by_next (Some next) found = ap (λ o. not (ends_before o claim.end)) found ∙ by_end (cases_lt next.start claim.end)
    where
      by_end : ((nat_lt next.start claim.end ≡ true) × (next.start < claim.end))
          ⊎ ((nat_lt next.start claim.end ≡ false) × (claim.end ≤ next.start))
          → not (nat_lt next.start claim.end) ≡ owns_all claims claim
      by_end (inl past) =
          ap not past.0 ∙ sym (owns_past claims claim is next known here
          (next_is claim.start None is next known.ascend known.differ found) past.1)
      by_end (inr ahead) =
          ap not ahead.0 ∙ sym (owns_ahead claims claim is known here
          (λ x low high. subst (IsAhead x) (sym found) (omega (arith, low, high, ahead.1))))
