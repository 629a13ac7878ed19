-- Intervals that begin where the owner changes say which module each byte counts for.
use Rattle.std.proofs.Common.{◌≡◌, ◌∙◌, ℕ, ◌<◌, ◌≤◌, ◌⊎◌, inl, inr, Bool, true, false, cond, List, [], ◌∷◌, Option}
use Rattle.std.proofs.Common.{Some, None, refl, sym, ap, subst, arith}
use Rattle.std.specs.Prelude.{nat_le, nat_lt, not, option_and_then}
use Rattle.std.specs.List.{AllByRecursion}
use Rattle.std.specs.List.Sorted.{IsPermutation, IsSorted}
use Rattle.std.specs.Ordering.{nat_cmp}
use Rattle.std.proofs.lemmas.Bool.Decides.{nat_tests}
use Rattle.std.proofs.lemmas.Cmp.{nat_cmp_total}
use Rattle.std.proofs.lemmas.List.Elements.{All-from_recursion, recursion_from_All}
use Rattle.std.proofs.lemmas.List.Sorted.{All-permutation, IsPermutation-sym, ranks_by}
use Rattle.pdb_tables.specs.Keyed.{is_lower, KeysAscend}
use Rattle.pdb_tables.specs.Last.{last_over}
use Rattle.pdb_tables.proofs.NumberLemmas.{cases_le, eqb_same, less_test}
use Rattle.pdb_tables.proofs.SortLemmas.{Rises, rises_from_sorted}
use Rattle.pdb_repairs.specs.Claims.{is_same_module, owner}
use Rattle.pdb_repairs.specs.Intervals.{AreOwners, Differ, begins_by, edges_of, interval_at, intervals_after, is_of}
use Rattle.pdb_repairs.specs.Intervals.{module_of}
use Rattle.pdb_repairs.specs.declared.claims.Claim.{Claim}
use Rattle.pdb_repairs.specs.declared.intervals.Interval.{Interval}
use Rattle.pdb_repairs.proofs.EdgeLemmas.{IsLast, all_above, at_least_first, is_less, last_or_none, no_owner, none_over}
use Rattle.pdb_repairs.proofs.EdgeLemmas.{same_owner}

-- a module is itself
pub same_itself : (o : Option ℕ) → is_same_module o o ≡ true
same_itself None = refl
same_itself (Some m) = eqb_same m

-- what is one module is equal
pub same_module : (a b : Option ℕ) → is_same_module a b ≡ true → a ≡ b
same_module None None is = refl
same_module None (Some b) is = absurd (cc)
same_module (Some a) None is = absurd (cc)
same_module (Some a) (Some b) is = let e : a ≡ b = grind (arith, nat_tests) in ap Some e

-- the module of an interval that is of a module
pub of_module : (interval : Option Interval) (m : Option ℕ) → is_of interval m ≡ true → module_of interval ≡ m
of_module None m is = absurd (cc)
of_module (Some interval) m is = same_module interval.module_index m is

-- where an interval begins, as a test on numbers
pub begins_test : (x : ℕ) (i : Interval) → begins_by x i ≡ not (nat_lt x i.start)
begins_test x i = ap not (less_test x i.start)

-- an interval that begins at a byte or before it
pub begins : (x : ℕ) (i : Interval) → i.start ≤ x → begins_by x i ≡ true
begins x i below = begins_test x i ∙ ap not (let h : nat_lt x i.start ≡ false = grind (arith, nat_tests) in h)

-- an interval that begins after a byte
pub begins_later : (x : ℕ) (i : Interval) → x < i.start → begins_by x i ≡ false
begins_later x i above = begins_test x i ∙ ap not (let h : nat_lt x i.start ≡ true = grind (arith, nat_tests) in h)

-- intervals at bytes that are all after x begin after x
none_begins : (x : ℕ) (owner_of : ℕ → Option ℕ) (last before : Option Interval) (es : List ℕ)
    → AllByRecursion (λ e. x < e) es
    → last_over (begins_by x) before (intervals_after owner_of last es) ≡ before
none_begins x owner_of last before [] above = refl
none_begins x owner_of last before (e ∷ es) above =
    by_test (is_of last (owner_of e)) (none_begins x owner_of last before es above.1)
    (none_begins x owner_of (Some (interval_at owner_of e)) before es above.1)
  where
    by_test : (t : Bool) → last_over (begins_by x) before (intervals_after owner_of last es) ≡ before
        → last_over (begins_by x) before (intervals_after owner_of (Some (interval_at owner_of e)) es) ≡ before
        → last_over (begins_by x) before (cond t (intervals_after owner_of last es)
        (interval_at owner_of e ∷ intervals_after owner_of (Some (interval_at owner_of e)) es)) ≡ before
    by_test true same other = same
    by_test false same other =
        ap (λ b. last_over (begins_by x) (cond b (Some (interval_at owner_of e)) before)
        (intervals_after owner_of (Some (interval_at owner_of e)) es))
        (begins_later x (interval_at owner_of e) above.0) ∙ other

-- what counts at an edge, if there is one
abbrev pub owner_at : (ℕ → Option ℕ) → Option ℕ → Option ℕ
owner_at owner_of edge = option_and_then owner_of edge

-- the last interval at a byte or before it is of the module that its last edge counts for
pub last_interval : (x : ℕ) (owner_of : ℕ → Option ℕ) (last : Option Interval) (edge : Option ℕ) (es : List ℕ)
    → Rises is_less es → module_of last ≡ owner_at owner_of edge
    → module_of (last_over (begins_by x) last (intervals_after owner_of last es))
    ≡ owner_at owner_of (last_over (λ e. nat_le e x) edge es)
last_interval x owner_of last edge [] rises is = is
last_interval x owner_of last edge (e ∷ es) rises is =
    by_place (cases_le e x) (λ same. last_interval x owner_of last (Some e) es rises.1 same)
    (last_interval x owner_of (Some (interval_at owner_of e)) (Some e) es rises.1 refl)
  where
    Goal : Bool → Bool → Type 0
    Goal t u =
        module_of (last_over (begins_by x) last (cond t (intervals_after owner_of last es)
        (interval_at owner_of e ∷ intervals_after owner_of (Some (interval_at owner_of e)) es)))
        ≡ owner_at owner_of (last_over (λ e. nat_le e x) (cond u (Some e) edge) es)

    After : Option Interval → Type 0
    After o =
        module_of (last_over (begins_by x) o (intervals_after owner_of o es))
        ≡ owner_at owner_of (last_over (λ e. nat_le e x) (Some e) es)

    by_module : (t : Bool) → is_of last (owner_of e) ≡ t → e ≤ x → (module_of last ≡ owner_of e → After last)
        → After (Some (interval_at owner_of e)) → Goal t true
    by_module true same below here there = here (of_module last (owner_of e) same)
    by_module false same below here there =
        ap (λ b. module_of (last_over (begins_by x) (cond b (Some (interval_at owner_of e)) last)
        (intervals_after owner_of (Some (interval_at owner_of e)) es)))
        (begins x (interval_at owner_of e) below) ∙ there

    by_place : ((nat_le e x ≡ true) × (e ≤ x)) ⊎ ((nat_le e x ≡ false) × (x < e))
        → (module_of last ≡ owner_of e → After last) → After (Some (interval_at owner_of e))
        → Goal (is_of last (owner_of e)) (nat_le e x)
    by_place (inl below) here there =
        rw below.0 (by_module (is_of last (owner_of e)) refl below.1 here there)
    by_place (inr above) here there =
        let others : AllByRecursion (λ e. x < e) (e ∷ es) =
        (above.1, all_above x e es above.1 (at_least_first e es rises.0)) in
        ap module_of (none_begins x owner_of last last (e ∷ es) others) ∙ is
        ∙ sym (ap (owner_at owner_of) (none_over x edge (e ∷ es) others))

-- neighbours differ
pub after_differ : (owner_of : ℕ → Option ℕ) (last : Option Interval) (es : List ℕ)
    → Differ last (intervals_after owner_of last es)
after_differ owner_of last [] = tt
after_differ owner_of last (e ∷ es) =
    by_test (is_of last (owner_of e)) refl (after_differ owner_of last es)
    (after_differ owner_of (Some (interval_at owner_of e)) es)
  where
    by_test : (t : Bool) → is_of last (owner_of e) ≡ t → Differ last (intervals_after owner_of last es)
        → Differ (Some (interval_at owner_of e)) (intervals_after owner_of (Some (interval_at owner_of e)) es)
        → Differ last (cond t (intervals_after owner_of last es)
        (interval_at owner_of e ∷ intervals_after owner_of (Some (interval_at owner_of e)) es))
    by_test true is same other = same
    by_test false is same other = (is, other)

-- all begin after an interval
abbrev pub AllLater : Interval → List Interval → Type 0
AllLater i is = AllByRecursion (λ y. is_lower nat_cmp (λ (j : Interval). j.start) i y ≡ true) is

-- an interval that begins after another
is_later : (i j : Interval) → i.start < j.start → is_lower nat_cmp (λ (j : Interval). j.start) i j ≡ true
is_later i j below = less_test i.start j.start
    ∙ (let h : nat_lt i.start j.start ≡ true = grind (arith, nat_tests) in h)

-- intervals at bytes after an interval's start begin after it
all_later : (owner_of : ℕ → Option ℕ) (i : Interval) (last : Option Interval) (es : List ℕ)
    → AllByRecursion (λ e. i.start < e) es → AllLater i (intervals_after owner_of last es)
all_later owner_of i last [] above = tt
all_later owner_of i last (e ∷ es) above =
    by_test (is_of last (owner_of e)) (all_later owner_of i last es above.1)
    (all_later owner_of i (Some (interval_at owner_of e)) es above.1)
  where
    by_test : (t : Bool) → AllLater i (intervals_after owner_of last es)
        → AllLater i (intervals_after owner_of (Some (interval_at owner_of e)) es)
        → AllLater i (cond t (intervals_after owner_of last es)
        (interval_at owner_of e ∷ intervals_after owner_of (Some (interval_at owner_of e)) es))
    by_test true same other = same
    by_test false same other = (is_later i (interval_at owner_of e) above.0, other)

-- the intervals after one that begins at a byte begin after it, also where the byte stands there twice
later_after : (owner_of : ℕ → Option ℕ) (byte : ℕ) (es : List ℕ) → Rises is_less es
    → AllByRecursion (λ e. byte ≤ e) es
    → AllLater (interval_at owner_of byte) (intervals_after owner_of (Some (interval_at owner_of byte)) es)
later_after owner_of byte [] rises all = tt
later_after owner_of byte (e ∷ es) rises all =
    by_test (is_same_module (owner_of byte) (owner_of e)) refl (later_after owner_of byte es rises.1 all.1)
  where
    i : Interval
    i = interval_at owner_of byte

    by_test : (t : Bool) → is_same_module (owner_of byte) (owner_of e) ≡ t
        → AllLater (interval_at owner_of byte) (intervals_after owner_of (Some (interval_at owner_of byte)) es)
        → AllLater (interval_at owner_of byte) (cond t
        (intervals_after owner_of (Some (interval_at owner_of byte)) es)
        (interval_at owner_of e ∷ intervals_after owner_of (Some (interval_at owner_of e)) es))
    by_test true is rest = rest
    by_test false is rest = by_place (cases_le e byte) where
      by_place : ((nat_le e byte ≡ true) × (e ≤ byte)) ⊎ ((nat_le e byte ≡ false) × (byte < e))
          → AllLater (interval_at owner_of byte)
          (interval_at owner_of e ∷ intervals_after owner_of (Some (interval_at owner_of e)) es)
      by_place (inl below) =
          let one : byte ≡ e = omega (arith, all.0, below.1) in
          let same : is_same_module (owner_of byte) (owner_of e) ≡ true =
          subst (λ b. is_same_module (owner_of byte) (owner_of b) ≡ true) one (same_itself (owner_of byte)) in
          absurd (cc)
      by_place (inr above) = (
        is_later (interval_at owner_of byte) (interval_at owner_of e) above.1,
        all_later owner_of (interval_at owner_of byte) (Some (interval_at owner_of e)) es
            (all_above byte e es above.1 (at_least_first e es rises.0)),
      )

-- intervals at bytes that rise ascend
pub after_ascend : (owner_of : ℕ → Option ℕ) (last : Option Interval) (es : List ℕ) → Rises is_less es
    → KeysAscend nat_cmp (λ (j : Interval). j.start) (intervals_after owner_of last es)
after_ascend owner_of last [] rises = tt
after_ascend owner_of last (e ∷ es) rises =
    by_test (is_of last (owner_of e)) (after_ascend owner_of last es rises.1)
    (after_ascend owner_of (Some (interval_at owner_of e)) es rises.1)
  where
    Ascend : List Interval → Type 0
    Ascend is = KeysAscend nat_cmp (λ (j : Interval). j.start) is

    by_test : (t : Bool) → Ascend (intervals_after owner_of last es)
        → Ascend (intervals_after owner_of (Some (interval_at owner_of e)) es)
        → Ascend (cond t (intervals_after owner_of last es)
        (interval_at owner_of e ∷ intervals_after owner_of (Some (interval_at owner_of e)) es))
    by_test true same other = same
    by_test false same other =
        (later_after owner_of e es rises.1 (at_least_first e es rises.0), other)

-- a byte counts for the module of the last edge at it or before it
owner_of_last : (claims : List Claim) (x : ℕ) (owner_of : ℕ → Option ℕ) (es : List ℕ)
    → ((y : ℕ) → owner_of y ≡ owner claims y) → Rises is_less es
    → ((P : ℕ → Type 0) → AllByRecursion P es → AllByRecursion P (edges_of claims))
    → owner claims x ≡ owner_at owner_of (last_over (λ e. nat_le e x) None es)
owner_of_last claims x owner_of es same rises all = by_last (last_or_none x es rises) where
  by_last : ((last_over (λ e. nat_le e x) None es ≡ None) × AllByRecursion (λ e. x < e) es)
      ⊎ IsLast x 0 es (last_over (λ e. nat_le e x) None es)
      → owner claims x ≡ owner_at owner_of (last_over (λ e. nat_le e x) None es)
  by_last (inl none) =
      no_owner claims x (all _ none.1) ∙ ap (owner_at owner_of) (sym none.0)
  by_last (inr l) =
      sym (same_owner claims l.edge x l.before (all _ l.clear)) ∙ sym (same l.edge)
      ∙ ap (owner_at owner_of) (sym l.is)

-- the intervals at the edges of claims, in order, are those of their owners
pub are_owners : (claims : List Claim) (owner_of : ℕ → Option ℕ) (es : List ℕ) (is : List Interval)
    → ((y : ℕ) → owner_of y ≡ owner claims y) → IsSorted nat_cmp es → IsPermutation (edges_of claims) es
    → is ≡ intervals_after owner_of None es → AreOwners claims is
are_owners claims owner_of es is same sorted permuted built = subst (AreOwners claims) (sym built) (record {
  ascend = after_ascend owner_of None es rises;
  owners = λ x. owner_of_last claims x owner_of es same rises all
      ∙ sym (last_interval x owner_of None None es rises refl);
  differ = after_differ owner_of None es;
}) where
  rises : Rises is_less es
  rises = rises_from_sorted (ranks_by nat_cmp_total (λ n. n)) es sorted

  all : (P : ℕ → Type 0) → AllByRecursion P es → AllByRecursion P (edges_of claims)
  all P holds =
      recursion_from_All P (edges_of claims)
      (All-permutation P es (edges_of claims) (IsPermutation-sym (edges_of claims) es permuted)
      (All-from_recursion P es holds))
