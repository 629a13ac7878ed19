-- The intervals that claims in order make: where they begin and end, what lies in them, what stands between them.
use Rattle.std.proofs.Common.{◌≡◌, ◌∙◌, ℕ, ◌<◌, ◌≤◌, Bool, true, false, cond, List, [], ◌∷◌, Some, None}
use Rattle.std.proofs.Common.{refl, sym, subst, inl, inr, arith}
use Rattle.std.specs.Prelude.{⊤, ◌⊎◌, ◌==◌, ◌&&◌, ◌||◌, max, nat_lt, nat_le}
use Rattle.std.specs.List.{AllByRecursion, list_any}
use Rattle.std.specs.Ordering.{nat_cmp, MatchOrdering}
use Rattle.std.specs.declared.cmp.Ordering.{Ordering}
use Rattle.std.specs.declared.cmp.Ordering.TheVariants.{Less, Equal, Greater}
use Rattle.std.proofs.lemmas.Cmp.{ranked}
use Rattle.std.proofs.lemmas.Bool.Decides.{nat_tests}
use Rattle.std.proofs.Math.Nat.{le-max_left, max-eq_left, max-eq_right}
use Rattle.pdb_functions.specs.declared.merged_contributions.ModuleSectionContribution.{ModuleSectionContribution}
use Rattle.pdb_functions.specs.MergedContributions.{is_same_module, contribution_before, intervals_with, intervals_of}
use Rattle.pdb_functions.specs.MergedContributions.{refused_overlap, overlap_after}
use Rattle.pdb_functions.specs.LookupLaws.{IsFilled, LiesBefore, AreApart, lies_in, LiesInOneOf, BeginsWithOneOf}
use Rattle.pdb_functions.specs.LookupLaws.{EndsWithOneOf}
use Rattle.pdb_tables.proofs.NumberLemmas.{cases_lt, cases_le, le-leb, eqb_same}
use Rattle.pdb_tables.proofs.SortLemmas.{Rises}
use Rattle.pdb_functions.proofs.OrderLemmas.{all_weaker}
use Rattle.pdb_functions.proofs.ContributionLemmas.{both_accepted, lies_before_all}

-- a test that comes first may be the one that passes
pub or_first : (b c : Bool) → b ≡ true → (b || c) ≡ true
or_first true c is = refl
or_first false c is = absurd (cc)

-- a test that comes second may be the one that passes
pub or_second : (b c : Bool) → c ≡ true → (b || c) ≡ true
or_second true c is = refl
or_second false c is = is

-- two of one module and section have the same section and the same module
pub same_fields : (a b : ModuleSectionContribution) → is_same_module a b ≡ true
    → (a.section_index ≡ b.section_index) × (a.module_index ≡ b.module_index)
same_fields a b same = (grind (arith, nat_tests), grind (arith, nat_tests))

-- one starts no later than another
abbrev pub StartsNoLater : ModuleSectionContribution → ModuleSectionContribution → Type 0
StartsNoLater a b = (a.section_index < b.section_index) ⊎
    ((a.section_index ≡ b.section_index) × (a.start_offset ≤ b.start_offset))

-- each starts no later than all that follow
abbrev pub StartsRise : List ModuleSectionContribution → Type 0
StartsRise [] = ⊤
StartsRise (m ∷ ms) = AllByRecursion (StartsNoLater m) ms × StartsRise ms

-- what comes no earlier than another starts no earlier
pub starts_no_later : (a b : ModuleSectionContribution) → contribution_before b a ≡ false → StartsNoLater a b
starts_no_later a b behind = by_section (nat_cmp b.section_index a.section_index) refl
    (ranked b.section_index a.section_index (nat_cmp b.section_index a.section_index) refl) where
      by_start : nat_cmp b.section_index a.section_index ≡ Equal → b.section_index ≡ a.section_index → (o : Ordering)
          → nat_cmp b.start_offset a.start_offset ≡ o
          → MatchOrdering o (b.start_offset < a.start_offset) (b.start_offset ≡ a.start_offset)
          (a.start_offset < b.start_offset) → StartsNoLater a b
      by_start is same Less was fact = let e = rw (is, was) at behind in absurd (cc)
      by_start is same Equal was fact = inr (sym same, omega (arith, fact))
      by_start is same Greater was fact = inr (sym same, omega (arith, fact))

      by_section : (o : Ordering) → nat_cmp b.section_index a.section_index ≡ o
          → MatchOrdering o (b.section_index < a.section_index) (b.section_index ≡ a.section_index)
          (a.section_index < b.section_index) → StartsNoLater a b
      by_section Less is fact = let e = rw is at behind in absurd (cc)
      by_section Equal is fact = by_start is fact (nat_cmp b.start_offset a.start_offset) refl
          (ranked b.start_offset a.start_offset (nat_cmp b.start_offset a.start_offset) refl)
      by_section Greater is fact = inl fact

-- claims in order start in order
pub starts_rise : (ms : List ModuleSectionContribution) → Rises contribution_before ms → StartsRise ms
starts_rise [] up = tt
starts_rise (m ∷ ms) up = (
  all_weaker (λ y. contribution_before y m ≡ false) (StartsNoLater m)
      (λ y behind. starts_no_later m y behind) ms up.0,
  starts_rise ms up.1,
)

-- what holds of each claim, and stays where its end grows, holds of each interval
pub all_of_intervals : (P : ModuleSectionContribution → Type 0)
    → ((m : ModuleSectionContribution) (e : ℕ) → m.end_offset ≤ e → P m → P (record m { end_offset = e }))
    → (ms : List ModuleSectionContribution) → AllByRecursion P ms → AllByRecursion P (intervals_of ms)
all_of_intervals P longer [] all = tt
all_of_intervals P longer (m ∷ ms) all = with_first (intervals_of ms) (all_of_intervals P longer ms all.1) where
  with_first : (is : List ModuleSectionContribution) → AllByRecursion P is → AllByRecursion P (intervals_with m is)
  with_first [] rest = (all.0, tt)
  with_first (i ∷ is) rest = by_test (is_same_module m i) where
    by_test : (t : Bool) → AllByRecursion P
        (cond t (record m { end_offset = max m.end_offset i.end_offset } ∷ is) (m ∷ i ∷ is))
    by_test true = (longer m (max m.end_offset i.end_offset) (le-max_left m.end_offset i.end_offset) all.0, rest.1)
    by_test false = (all.0, rest)

-- intervals of claims with bytes have bytes
pub intervals_filled : (ms : List ModuleSectionContribution) → AllByRecursion IsFilled ms
    → AllByRecursion IsFilled (intervals_of ms)
intervals_filled = all_of_intervals IsFilled (λ i e longer filled. omega (arith, filled, longer))

-- intervals of claims that start in order do so too
pub intervals_rise : (ms : List ModuleSectionContribution) → StartsRise ms → StartsRise (intervals_of ms)
intervals_rise [] up = tt
intervals_rise (m ∷ ms) up = with_first (intervals_of ms)
    (all_of_intervals (StartsNoLater m) (λ n e longer later. later) ms up.0) (intervals_rise ms up.1) where
      with_first : (is : List ModuleSectionContribution) → AllByRecursion (StartsNoLater m) is → StartsRise is
          → StartsRise (intervals_with m is)
      with_first [] later rest = (tt, tt)
      with_first (i ∷ is) later rest = by_test (is_same_module m i) where
        by_test : (t : Bool) → StartsRise
            (cond t (record m { end_offset = max m.end_offset i.end_offset } ∷ is) (m ∷ i ∷ is))
        by_test true = (later.1, rest.1)
        by_test false = (later, rest)

-- neighbours that start in order and don't overlap lie one before the other
pub starts_apart : (a b : ModuleSectionContribution) → StartsNoLater a b → refused_overlap (Some a) b ≡ None
    → LiesBefore a b
starts_apart a b (inl less) apart = inl less
starts_apart a b (inr one) apart = by_test (cases_lt b.start_offset a.end_offset) where
  by_test : ((nat_lt b.start_offset a.end_offset ≡ true) × (b.start_offset < a.end_offset)) ⊎
      ((nat_lt b.start_offset a.end_offset ≡ false) × (a.end_offset ≤ b.start_offset)) → LiesBefore a b
  by_test (inl within) = let e = rw (one.0, eqb_same b.section_index, within.0) at apart in absurd (cc)
  by_test (inr behind) = inr (one.0, behind.1)

-- intervals that start in order and don't overlap are apart
pub apart_from_starts : (m : ModuleSectionContribution) (ms : List ModuleSectionContribution) → IsFilled m
    → AllByRecursion IsFilled ms → StartsRise (m ∷ ms) → overlap_after (Some m) ms ≡ None → AreApart (m ∷ ms)
apart_from_starts m [] here filled up apart = (here, tt, tt)
apart_from_starts m (n ∷ ns) here filled up apart =
    let accepted = both_accepted (refused_overlap (Some m) n) (overlap_after (Some n) ns) apart in
    let rest : AreApart (n ∷ ns) = apart_from_starts n ns filled.0 filled.1 up.1 accepted.1 in
    let next : LiesBefore m n = starts_apart m n up.0.0 accepted.0 in
    (here, (next, lies_before_all m n ns next filled.0 rest.1), rest)

-- what a claim that lies in an interval has of it
pub lies_facts : (c i : ModuleSectionContribution) → lies_in c i ≡ true
    → (c.section_index ≡ i.section_index) × (c.module_index ≡ i.module_index) × (i.start_offset ≤ c.start_offset) ×
    (c.end_offset ≤ i.end_offset)
lies_facts c i lies = (
  grind (arith, nat_tests),
  grind (arith, nat_tests),
  grind (arith, nat_tests),
  grind
      (arith, nat_tests),
)

-- a claim lies in an interval of its module and section that begins no later and ends no earlier
pub lies_from : (c i : ModuleSectionContribution) → c.section_index ≡ i.section_index
    → c.module_index ≡ i.module_index → i.start_offset ≤ c.start_offset → c.end_offset ≤ i.end_offset
    → lies_in c i ≡ true
lies_from c i section one begins ends =
    rw (
      section,
      one,
      eqb_same i.section_index,
      eqb_same i.module_index,
      le-leb i.start_offset c.start_offset begins,
      le-leb c.end_offset i.end_offset ends,
    ) refl

-- what starts no later in one section starts no later in it
pub starts_below : (a b : ModuleSectionContribution) → StartsNoLater a b → a.section_index ≡ b.section_index
    → a.start_offset ≤ b.start_offset
starts_below a b (inl less) one = absurd (omega arith)
starts_below a b (inr same) one = same.1

-- the greater of two numbers is no smaller than the second
second_below_max : (a b : ℕ) → b ≤ max a b
second_below_max a b = by_test (cases_le a b) where
  by_test : ((nat_le a b ≡ true) × (a ≤ b)) ⊎ ((nat_le a b ≡ false) × (b < a)) → b ≤ max a b
  by_test (inl less) = rw (max-eq_right less.1) (omega arith)
  by_test (inr more) = let h : b ≤ a = (let k : b < a = more.1 in omega arith) in rw (max-eq_left h) h

-- what lies in an interval lies in it as a claim joins it from the front
pub lies_in_joined : (m i d : ModuleSectionContribution) → is_same_module m i ≡ true → StartsNoLater m d
    → lies_in d i ≡ true → lies_in d (record m { end_offset = max m.end_offset i.end_offset }) ≡ true
lies_in_joined m i d same later lies =
    let f = lies_facts d i lies in
    let g = same_fields m i same in
    let one : m.section_index ≡ d.section_index = g.0 ∙ sym f.0 in
    let joined : ModuleSectionContribution = record m { end_offset = max m.end_offset i.end_offset } in
    let ends : d.end_offset ≤ max m.end_offset i.end_offset = (let h : i.end_offset ≤ max m.end_offset i.end_offset =
    second_below_max m.end_offset i.end_offset in omega (arith, f.3)) in
    lies_from d joined (sym one) (f.1 ∙ sym g.1) (starts_below m d later one) ends

-- each claim lies in one of the intervals
pub claims_lie_in_intervals : (ms : List ModuleSectionContribution) → StartsRise ms
    → AllByRecursion (LiesInOneOf (intervals_of ms)) ms
claims_lie_in_intervals [] up = tt
claims_lie_in_intervals (m ∷ ms) up =
    (own (intervals_of ms), others (intervals_of ms) ms up.0 (claims_lie_in_intervals ms up.1)) where
      lies_in_longer : (e : ℕ) → m.end_offset ≤ e → lies_in m (record m { end_offset = e }) ≡ true
      lies_in_longer e longer = lies_from m (record m { end_offset = e }) refl refl (omega arith) longer

      own : (is : List ModuleSectionContribution) → list_any (lies_in m) (intervals_with m is) ≡ true
      own [] = rw (lies_in_longer m.end_offset (omega arith)) refl
      own (i ∷ is) = by_test (is_same_module m i) where
        by_test : (t : Bool) → list_any (lies_in m)
            (cond t (record m { end_offset = max m.end_offset i.end_offset } ∷ is) (m ∷ i ∷ is)) ≡ true
        by_test true = rw (lies_in_longer (max m.end_offset i.end_offset) (le-max_left m.end_offset i.end_offset)) refl
        by_test false = rw (lies_in_longer m.end_offset (omega arith)) refl

      other : (is : List ModuleSectionContribution) (d : ModuleSectionContribution) → StartsNoLater m d
          → list_any (lies_in d) is ≡ true → list_any (lies_in d) (intervals_with m is) ≡ true
      other [] d later lies = absurd (cc)
      other (i ∷ is) d later lies = by_tests (is_same_module m i) refl (lies_in d i) refl where
        by_tests : (t : Bool) → is_same_module m i ≡ t → (u : Bool) → lies_in d i ≡ u
            → list_any (lies_in d) (cond t (record m { end_offset = max m.end_offset i.end_offset } ∷ is)
            (m ∷ i ∷ is)) ≡ true
        by_tests true same true within = rw (lies_in_joined m i d same later within) refl
        by_tests true same false without =
            or_second (lies_in d (record m { end_offset = max m.end_offset i.end_offset }))
            (list_any (lies_in d) is) (rw without at lies)
        by_tests false apart u within = or_second (lies_in d m) (list_any (lies_in d) (i ∷ is)) lies

      others : (is ds : List ModuleSectionContribution) → AllByRecursion (StartsNoLater m) ds
          → AllByRecursion (LiesInOneOf is) ds → AllByRecursion (LiesInOneOf (intervals_with m is)) ds
      others is [] later all = tt
      others is (d ∷ ds) later all = (other is d later.0 all.0, others is ds later.1 all.1)

-- each interval begins where a claim begins
pub intervals_begin : (ms : List ModuleSectionContribution) → AllByRecursion (BeginsWithOneOf ms) (intervals_of ms)
intervals_begin [] = tt
intervals_begin (m ∷ ms) = with_first (intervals_of ms) (intervals_begin ms) where
  more : (is : List ModuleSectionContribution) → AllByRecursion (BeginsWithOneOf ms) is
      → AllByRecursion (BeginsWithOneOf (m ∷ ms)) is
  more is all = all_weaker (BeginsWithOneOf ms) (BeginsWithOneOf (m ∷ ms))
      (λ i begins. or_second (is_same_module m i && (m.start_offset == i.start_offset))
      (list_any (λ c. is_same_module c i && (c.start_offset == i.start_offset)) ms) begins) is all

  own : (e : ℕ) → BeginsWithOneOf (m ∷ ms) (record m { end_offset = e })
  own e = rw (eqb_same m.section_index, eqb_same m.module_index, eqb_same m.start_offset) refl

  with_first : (is : List ModuleSectionContribution) → AllByRecursion (BeginsWithOneOf ms) is
      → AllByRecursion (BeginsWithOneOf (m ∷ ms)) (intervals_with m is)
  with_first [] rest = (own m.end_offset, tt)
  with_first (i ∷ is) rest = by_test (is_same_module m i) where
    by_test : (t : Bool) → AllByRecursion (BeginsWithOneOf (m ∷ ms))
        (cond t (record m { end_offset = max m.end_offset i.end_offset } ∷ is) (m ∷ i ∷ is))
    by_test true = (own (max m.end_offset i.end_offset), more is rest.1)
    by_test false = (own m.end_offset, more (i ∷ is) rest)

-- what ends with a claim does so by its section, its module and its end alone
pub ends_alike : (ms : List ModuleSectionContribution) (i j : ModuleSectionContribution)
    → i.section_index ≡ j.section_index → i.module_index ≡ j.module_index → i.end_offset ≡ j.end_offset
    → EndsWithOneOf ms i → EndsWithOneOf ms j
ends_alike ms i j section one end ends =
    let P : ℕ → Type 0 = λ s. list_any
    (λ c. (c.section_index == s) && (c.module_index == i.module_index) && (c.end_offset == i.end_offset)) ms ≡ true in
    let Q : ℕ → Type 0 = λ k. list_any
    (λ c. (c.section_index == j.section_index) && (c.module_index == k) && (c.end_offset == i.end_offset)) ms ≡ true in
    let R : ℕ → Type 0 = λ e. list_any
    (λ c. (c.section_index == j.section_index) && (c.module_index == j.module_index) && (c.end_offset == e)) ms
    ≡ true in
    subst R end (subst Q one (subst P section ends))

-- each interval ends where a claim ends
pub intervals_end : (ms : List ModuleSectionContribution) → AllByRecursion (EndsWithOneOf ms) (intervals_of ms)
intervals_end [] = tt
intervals_end (m ∷ ms) = with_first (intervals_of ms) (intervals_end ms) where
  more : (is : List ModuleSectionContribution) → AllByRecursion (EndsWithOneOf ms) is
      → AllByRecursion (EndsWithOneOf (m ∷ ms)) is
  more is all = all_weaker (EndsWithOneOf ms) (EndsWithOneOf (m ∷ ms))
      (λ i ends. or_second (is_same_module m i && (m.end_offset == i.end_offset))
      (list_any (λ c. is_same_module c i && (c.end_offset == i.end_offset)) ms) ends) is all

  own : EndsWithOneOf (m ∷ ms) m
  own = rw (eqb_same m.section_index, eqb_same m.module_index, eqb_same m.end_offset) refl

  longer : ℕ → ModuleSectionContribution
  longer e = record m { end_offset = e }

  joined : (i : ModuleSectionContribution) → is_same_module m i ≡ true → EndsWithOneOf ms i
      → EndsWithOneOf (m ∷ ms) (record m { end_offset = max m.end_offset i.end_offset })
  joined i same ends = by_end (cases_le m.end_offset i.end_offset) where
    by_end : ((nat_le m.end_offset i.end_offset ≡ true) × (m.end_offset ≤ i.end_offset)) ⊎
        ((nat_le m.end_offset i.end_offset ≡ false) × (i.end_offset < m.end_offset))
        → EndsWithOneOf (m ∷ ms) (record m { end_offset = max m.end_offset i.end_offset })
    by_end (inl less) =
        let f = same_fields m i same in
        let joined : ModuleSectionContribution = record m { end_offset = max m.end_offset i.end_offset } in
        or_second (is_same_module m joined && (m.end_offset == joined.end_offset))
        (list_any (λ c. is_same_module c joined && (c.end_offset == joined.end_offset)) ms)
        (ends_alike ms i joined (sym f.0) (sym f.1) (sym (max-eq_right less.1)) ends)
    by_end (inr more) = let h : i.end_offset ≤ m.end_offset =
        (let k : i.end_offset < m.end_offset = more.1 in omega arith) in
        or_first (is_same_module m (longer m.end_offset) && (m.end_offset == max m.end_offset i.end_offset))
        (list_any (λ c. is_same_module c (longer (max m.end_offset i.end_offset)) &&
        (c.end_offset == max m.end_offset i.end_offset)) ms)
        (rw (max-eq_left h, eqb_same m.section_index, eqb_same m.module_index, eqb_same m.end_offset) refl)

  with_first : (is : List ModuleSectionContribution) → AllByRecursion (EndsWithOneOf ms) is
      → AllByRecursion (EndsWithOneOf (m ∷ ms)) (intervals_with m is)
  with_first [] rest = (own, tt)
  with_first (i ∷ is) rest = by_test (is_same_module m i) refl where
    by_test : (t : Bool) → is_same_module m i ≡ t
        → AllByRecursion (EndsWithOneOf (m ∷ ms))
        (cond t (record m { end_offset = max m.end_offset i.end_offset } ∷ is) (m ∷ i ∷ is))
    by_test true same = (joined i same rest.0, more is rest.1)
    by_test false apart = (own, more (i ∷ is) rest)
