-- Claims joined in reading order, and the same claims joined as the intervals of a list.
use Rattle.std.proofs.Common.{◌≡◌, ◌∙◌, ◌<◌, ◌≤◌, ℕ, Bool, true, false, cond, List, [], ◌∷◌, ◌++◌, Option}
use Rattle.std.proofs.Common.{Some, None, refl, sym, ap, inl, inr, arith}
use Rattle.std.specs.Prelude.{◌⊎◌, ⊤, nat_lt, max}
use Rattle.pdb_errors.specs.declared.error.Error.{Error}
use Rattle.pdb_functions.specs.declared.merged_contributions.ModuleSectionContribution.{ModuleSectionContribution}
use Rattle.pdb_errors.specs.Outcomes.{first_refusal}
use Rattle.pdb_functions.specs.MergedContributions.{claims, is_same_module, refused_end, refused_ends}
use Rattle.pdb_functions.specs.MergedContributions.{intervals_with, intervals_of}
use Rattle.pdb_functions.specs.ReadingOrder.{interval_after, reading_intervals, refused_order, refusal_after}
use Rattle.pdb_functions.specs.ReadingOrder.{StartsNeverFall}
use Rattle.pdb_tables.proofs.NumberLemmas.{cases_lt, eqb_same}
use Rattle.pdb_functions.proofs.ContributionLemmas.{both_accepted}
use Rattle.pdb_functions.proofs.IntervalLemmas.{same_fields}

-- two of one module and section are so of the same others
pub same_alike : (a b c : ModuleSectionContribution) → is_same_module a b ≡ true
    → is_same_module a c ≡ is_same_module b c
same_alike a b c same = let fields = same_fields a b same in rw (fields.0, fields.1) refl

-- and others are of theirs
pub same_of_alike : (a b c : ModuleSectionContribution) → is_same_module a b ≡ true
    → is_same_module c a ≡ is_same_module c b
same_of_alike a b c same = let fields = same_fields a b same in rw (fields.0, fields.1) refl

-- each is of its own module and section
pub same_itself : (a : ModuleSectionContribution) → is_same_module a a ≡ true
same_itself a = rw (eqb_same a.section_index, eqb_same a.module_index) refl

-- one is of another's module and section where that is of the one's
pub same_back : (a b : ModuleSectionContribution) → is_same_module a b ≡ true → is_same_module b a ≡ true
same_back a b same = sym (same_alike a b a same) ∙ same_itself a

-- of three numbers the greatest, whichever two are compared first
max_over : (a b c : ℕ) → max (max a b) c ≡ max a (max b c)
max_over a b c = grind arith

-- where the second of two is of the first one's module and section, both join to one up to the greater end
pub joins_same : (interval m : ModuleSectionContribution) (xs : List ModuleSectionContribution)
    → is_same_module interval m ≡ true
    → intervals_with interval (intervals_with m xs)
    ≡ intervals_with (record interval { end_offset = max interval.end_offset m.end_offset }) xs
joins_same interval m [] same = rw same refl
joins_same interval m (x ∷ xs) same = by_test (is_same_module m x) refl where
  by_test : (t : Bool) → is_same_module m x ≡ t
      → intervals_with interval (intervals_with m (x ∷ xs))
      ≡ intervals_with (record interval { end_offset = max interval.end_offset m.end_offset }) (x ∷ xs)
  by_test true one =
      rw (one, same_alike interval m x same, one, same, max_over interval.end_offset m.end_offset x.end_offset) refl
  by_test false other = rw (other, same_alike interval m x same, other, same) refl

-- where it isn't, the first is an interval of its own
pub joins_other : (interval m : ModuleSectionContribution) (xs : List ModuleSectionContribution)
    → is_same_module interval m ≡ false → intervals_with interval (intervals_with m xs) ≡ interval ∷ intervals_with m xs
joins_other interval m [] other = rw other refl
joins_other interval m (x ∷ xs) other = by_test (is_same_module m x) refl where
  by_test : (t : Bool) → is_same_module m x ≡ t
      → intervals_with interval (intervals_with m (x ∷ xs)) ≡ interval ∷ intervals_with m (x ∷ xs)
  by_test true one = rw (one, other) refl
  by_test false apart = rw (apart, other) refl

-- a claim that goes on with an interval, and is not refused, ends no earlier
pub ends_no_earlier : (interval claim : ModuleSectionContribution) → is_same_module interval claim ≡ true
    → refused_order (Some interval) claim ≡ None → interval.end_offset ≤ claim.end_offset
ends_no_earlier interval claim same accepted = by_test (cases_lt claim.end_offset interval.end_offset) where
  by_test : ((nat_lt claim.end_offset interval.end_offset ≡ true) × (claim.end_offset < interval.end_offset))
      ⊎ ((nat_lt claim.end_offset interval.end_offset ≡ false) × (interval.end_offset ≤ claim.end_offset))
      → interval.end_offset ≤ claim.end_offset
  by_test (inl less) = let e = rw (same, less.0) at accepted in absurd (cc)
  by_test (inr more) = more.1

-- the greater of two numbers is the second where that is no smaller
max_second : (a b : ℕ) → a ≤ b → max a b ≡ b
max_second a b up = omega arith

-- what is not refused after an open interval
pub record IsAccepted (interval claim : ModuleSectionContribution) (claims : List ModuleSectionContribution) : Type 0
  where
    pub end : refused_end claim ≡ None
    pub order : refused_order (Some interval) claim ≡ None
    pub behind : refusal_after (Some (interval_after (Some interval) claim)) claims ≡ None

-- no refusal of several claims is none of the first and none after it
pub is_accepted : (interval claim : ModuleSectionContribution) (claims : List ModuleSectionContribution)
    → refusal_after (Some interval) (claim ∷ claims) ≡ None → IsAccepted interval claim claims
is_accepted interval claim claims accepted =
    let order = refused_order (Some interval) claim in
    let behind = refusal_after (Some (interval_after (Some interval) claim)) claims in
    let ends = both_accepted (refused_end claim) (first_refusal order behind) accepted in
    let orders = both_accepted order behind ends.1 in
    record { end = ends.0; order = orders.0; behind = orders.1 }

-- an interval that goes on to the end of a claim
abbrev pub going_on : ModuleSectionContribution → ModuleSectionContribution → ModuleSectionContribution
going_on interval m = record interval { end_offset = m.end_offset }

-- where nothing is refused, the intervals in reading order from an open one on are those of it and what follows
pub open_intervals_are : (interval : ModuleSectionContribution) (ms : List ModuleSectionContribution)
    → refusal_after (Some interval) ms ≡ None → reading_intervals (Some interval) ms ≡ intervals_of (interval ∷ ms)
open_intervals_are interval [] accepted = refl
open_intervals_are interval (m ∷ ms) accepted =
    let a = is_accepted interval m ms accepted in
    by_test (is_same_module interval m) refl a.order (open_intervals_are (interval_after (Some interval) m) ms a.behind)
  where
    by_test : (t : Bool) → is_same_module interval m ≡ t → refused_order (Some interval) m ≡ None
        → reading_intervals (Some (cond t (going_on interval m) m)) ms
        ≡ intervals_of (cond t (going_on interval m) m ∷ ms)
        → cond t [] (interval ∷ []) ++ reading_intervals (Some (cond t (going_on interval m) m)) ms
        ≡ intervals_of (interval ∷ m ∷ ms)
    by_test true same order rest =
        let longer = ends_no_earlier interval m same order in
        let e : max interval.end_offset m.end_offset ≡ m.end_offset =
        max_second interval.end_offset m.end_offset longer in
        rest ∙ sym (rw e at (joins_same interval m (intervals_of ms) same))
    by_test false other order rest =
        ap (λ (xs : List ModuleSectionContribution). interval ∷ xs) rest
        ∙ sym (joins_other interval m (intervals_of ms) other)

-- where nothing is refused, the intervals of claims in reading order are their intervals
pub reading_intervals_are : (ms : List ModuleSectionContribution) → refusal_after None ms ≡ None
    → reading_intervals None ms ≡ intervals_of ms
reading_intervals_are [] accepted = refl
reading_intervals_are (m ∷ ms) accepted =
    open_intervals_are m ms (both_accepted (refused_end m) (refusal_after (Some m) ms) accepted).1

-- where neither of two is a refusal there is none
pub neither_refused : (a b : Option Error) → a ≡ None → b ≡ None → first_refusal a b ≡ None
neither_refused None b none is = is
neither_refused (Some e) b none is = none

-- where nothing is refused, no end is
pub ends_accepted_behind : (interval : ModuleSectionContribution) (ms : List ModuleSectionContribution)
    → refusal_after (Some interval) ms ≡ None → refused_ends ms ≡ None
ends_accepted_behind interval [] accepted = refl
ends_accepted_behind interval (m ∷ ms) accepted =
    let a = is_accepted interval m ms accepted in
    neither_refused (refused_end m) (refused_ends ms) a.end
    (ends_accepted_behind (interval_after (Some interval) m) ms a.behind)

-- where nothing of all claims is refused, no end is
pub ends_accepted_in_reading : (ms : List ModuleSectionContribution) → refusal_after None ms ≡ None
    → refused_ends ms ≡ None
ends_accepted_in_reading [] accepted = refl
ends_accepted_in_reading (m ∷ ms) accepted =
    let ends = both_accepted (refused_end m) (refusal_after (Some m) ms) accepted in
    neither_refused (refused_end m) (refused_ends ms) ends.0 (ends_accepted_behind m ms ends.1)

-- a claim of another's module and section starts and ends no earlier
abbrev pub IsNoEarlier : ModuleSectionContribution → ModuleSectionContribution → Type 0
IsNoEarlier a b = is_same_module a b ≡ true → (a.start_offset ≤ b.start_offset) × (a.end_offset ≤ b.end_offset)

-- of neighbours of one module and section the second starts and ends no earlier
abbrev pub NeighboursNeverFall : List ModuleSectionContribution → Type 0
NeighboursNeverFall [] = ⊤
NeighboursNeverFall (claim ∷ []) = ⊤
NeighboursNeverFall (claim ∷ next ∷ claims) = IsNoEarlier claim next × NeighboursNeverFall (next ∷ claims)

-- an interval goes on with a claim as the claim's, up to its end
pub goes_on : (interval m : ModuleSectionContribution)
    → (is_same_module (interval_after (Some interval) m) m ≡ true)
    × ((interval_after (Some interval) m).end_offset ≡ m.end_offset)
goes_on interval m = by_test (is_same_module interval m) refl where
  by_test : (t : Bool) → is_same_module interval m ≡ t
      → (is_same_module (cond t (going_on interval m) m) m ≡ true)
      × ((cond t (going_on interval m) m).end_offset ≡ m.end_offset)
  by_test true same = (same, refl)
  by_test false other = (same_itself m, refl)

-- where nothing is refused and starts never fall, neighbours never fall after an open interval
pub never_fall_behind : (interval before : ModuleSectionContribution) (ms : List ModuleSectionContribution)
    → is_same_module interval before ≡ true → interval.end_offset ≡ before.end_offset
    → refusal_after (Some interval) ms ≡ None
    → StartsNeverFall (before ∷ ms) → NeighboursNeverFall (before ∷ ms)
never_fall_behind interval before [] one end accepted starts = tt
never_fall_behind interval before (m ∷ ms) one end accepted starts =
    let a = is_accepted interval m ms accepted in
    let next = goes_on interval m in
    let rest = never_fall_behind (interval_after (Some interval) m) m ms next.0 next.1 a.behind starts.1 in
    (λ same. (starts.0 same, ends_rise same a.order), rest)
  where
    ends_rise : is_same_module before m ≡ true → refused_order (Some interval) m ≡ None
        → before.end_offset ≤ m.end_offset
    ends_rise same order =
        let up : interval.end_offset ≤ m.end_offset =
        ends_no_earlier interval m (same_alike interval before m one ∙ same) order in
        omega (arith, end)

-- where nothing is refused and starts never fall, neighbours never fall
pub never_fall : (ms : List ModuleSectionContribution) → refusal_after None ms ≡ None → StartsNeverFall ms
    → NeighboursNeverFall ms
never_fall [] accepted starts = tt
never_fall (m ∷ ms) accepted starts =
    let behind = (both_accepted (refused_end m) (refusal_after (Some m) ms) accepted).1 in
    never_fall_behind m m ms (same_itself m) refl behind starts
