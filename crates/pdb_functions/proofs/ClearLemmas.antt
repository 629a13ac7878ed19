-- Which of two intervals comes before the other, and intervals of which each lies before or after the others.
use Rattle.std.proofs.Common.{◌≡◌, ◌∙◌, ◌<◌, ◌≤◌, ℕ, Bool, true, false, cond, List, [], ◌∷◌, refl, sym, inl, inr, arith}
use Rattle.std.specs.Prelude.{◌⊎◌, ⊤, nat_lt, max}
use Rattle.std.specs.List.{AllByRecursion}
use Rattle.std.specs.Ordering.{nat_cmp, ordering_then, is_lt, MatchOrdering}
use Rattle.std.specs.Cmp.{nat_cmp_is}
use Rattle.std.specs.declared.cmp.Ordering.{Ordering}
use Rattle.std.specs.declared.cmp.Ordering.TheVariants.{Less, Equal, Greater}
use Rattle.std.proofs.lemmas.Cmp.{ranked}
use Rattle.pdb_functions.specs.declared.merged_contributions.ModuleSectionContribution.{ModuleSectionContribution}
use Rattle.pdb_tables.specs.InOrder.{put, in_order}
use Rattle.pdb_functions.specs.MergedContributions.{is_same_module, contribution_before, intervals_with, intervals_of}
use Rattle.pdb_functions.specs.ReadingOrder.{AreOnly}
use Rattle.pdb_functions.specs.LookupLaws.{IsFilled, LiesBefore, AreApart}
use Rattle.pdb_tables.proofs.NumberLemmas.{cases_lt}
use Rattle.pdb_functions.proofs.ContributionLemmas.{contributions_rank}
use Rattle.pdb_functions.proofs.OrderLemmas.{all_weaker, all_taken, all_of_order}
use Rattle.pdb_functions.proofs.IntervalLemmas.{same_fields}
use Rattle.pdb_functions.proofs.ReadingOrderLemmas.{same_alike, same_of_alike, same_back, joins_other}
use Rattle.pdb_functions.proofs.ReadingOrderLemmas.{IsNoEarlier, NeighboursNeverFall}

-- a number is not below one that is no greater
not_below : (x y : ℕ) → y ≤ x → is_lt (nat_cmp x y) ≡ false
not_below x y up = by_order (nat_cmp x y) refl (ranked x y (nat_cmp x y) refl) where
  by_order : (o : Ordering) → nat_cmp x y ≡ o → MatchOrdering o (x < y) (x ≡ y) (y < x) → is_lt (nat_cmp x y) ≡ false
  by_order Less is fact = absurd (omega (arith, fact))
  by_order Equal is fact = rw is refl
  by_order Greater is fact = rw is refl

-- what starts before another, or stands in a section before, comes before it
pub starts_before : (a b : ModuleSectionContribution)
    → (a.section_index < b.section_index) ⊎ ((a.section_index ≡ b.section_index) × (a.start_offset < b.start_offset))
    → contribution_before a b ≡ true
starts_before a b (inl section) = rw (← nat_cmp_is a.section_index b.section_index Less section) refl
starts_before a b (inr start) =
    let section = nat_cmp_is a.section_index b.section_index Equal start.0 in
    let offset = nat_cmp_is a.start_offset b.start_offset Less start.1 in
    rw (← section, ← offset) refl

-- what isn't less at first nor after it isn't less
then_not_less : (o p : Ordering) → is_lt o ≡ false → is_lt p ≡ false → is_lt (ordering_then o p) ≡ false
then_not_less Less p first second = first
then_not_less Equal p first second = second
then_not_less Greater p first second = refl

-- what starts and ends no earlier than one of its module and section does not come before it
pub not_before : (a b : ModuleSectionContribution) → is_same_module a b ≡ true → a.start_offset ≤ b.start_offset
    → a.end_offset ≤ b.end_offset → contribution_before b a ≡ false
not_before a b same start end =
    let fields = same_fields a b same in
    let section : a.section_index ≤ b.section_index = omega (arith, fields.0) in
    let module_index : a.module_index ≤ b.module_index = omega (arith, fields.1) in
    then_not_less (nat_cmp b.section_index a.section_index) _ (not_below b.section_index a.section_index section) (
    then_not_less (nat_cmp b.start_offset a.start_offset) _ (not_below b.start_offset a.start_offset start) (
    then_not_less (nat_cmp b.end_offset a.end_offset) _ (not_below b.end_offset a.end_offset end) (
    not_below b.module_index a.module_index module_index)))

-- what lies before another comes before it
pub before_when_lies : (a b : ModuleSectionContribution) → IsFilled a → LiesBefore a b → contribution_before a b ≡ true
before_when_lies a b filled (inl section) = starts_before a b (inl section)
before_when_lies a b filled (inr one) = starts_before a b (inr (one.0, omega (arith, one.1)))

-- and that does not come before it
pub behind_when_lies : (a b : ModuleSectionContribution) → IsFilled a → LiesBefore a b → contribution_before b a ≡ false
behind_when_lies a b filled lies = contributions_rank.one_way a b (before_when_lies a b filled lies)

-- what comes after one of its module and section starts no earlier
pub starts_behind : (a b : ModuleSectionContribution) → contribution_before b a ≡ false → is_same_module a b ≡ true
    → a.start_offset ≤ b.start_offset
starts_behind a b behind same = by_test (cases_lt b.start_offset a.start_offset) where
  by_test : ((nat_lt b.start_offset a.start_offset ≡ true) × (b.start_offset < a.start_offset))
      ⊎ ((nat_lt b.start_offset a.start_offset ≡ false) × (a.start_offset ≤ b.start_offset))
      → a.start_offset ≤ b.start_offset
  by_test (inl less) = let e = starts_before b a (inr (sym (same_fields a b same).0, less.1)) in absurd (cc)
  by_test (inr more) = more.1

-- it is of another module or section
abbrev pub IsOther : ModuleSectionContribution → ModuleSectionContribution → Type 0
IsOther a b = is_same_module a b ≡ false

-- it starts no earlier, where it is of the module and section
abbrev pub StartsBehind : ModuleSectionContribution → ModuleSectionContribution → Type 0
StartsBehind a b = is_same_module a b ≡ true → a.start_offset ≤ b.start_offset

-- one lies before the other
abbrev pub IsClear : ModuleSectionContribution → ModuleSectionContribution → Type 0
IsClear a b = LiesBefore a b ⊎ LiesBefore b a

-- one lies before the other, where they are not of one module and section
abbrev pub IsClearOfOther : ModuleSectionContribution → ModuleSectionContribution → Type 0
IsClearOfOther a b = is_same_module a b ≡ false → IsClear a b

-- each lies before or after each that follows
abbrev pub AreClear : List ModuleSectionContribution → Type 0
AreClear [] = ⊤
AreClear (m ∷ ms) = AllByRecursion (IsClear m) ms × AreClear ms

-- none that follows is of one's module and section and starts or ends earlier
abbrev pub NoneFalls : List ModuleSectionContribution → Type 0
NoneFalls [] = ⊤
NoneFalls (m ∷ ms) = AllByRecursion (IsNoEarlier m) ms × NoneFalls ms

-- what lies before and after is not changed by which is first
clear_back : (a b : ModuleSectionContribution) → IsClear a b → IsClear b a
clear_back a b (inl lies) = inr lies
clear_back a b (inr lies) = inl lies

-- what is of another module or section than one, that is so of the other
pub other_back : (a b : ModuleSectionContribution) → is_same_module a b ≡ false → is_same_module b a ≡ false
other_back a b other = by_test (is_same_module b a) refl where
  by_test : (t : Bool) → is_same_module b a ≡ t → is_same_module b a ≡ false
  by_test true same = let e = same_back b a same in absurd (cc)
  by_test false apart = apart

-- one that joins another, up to the greater end
abbrev pub joined : ModuleSectionContribution → ModuleSectionContribution → ModuleSectionContribution
joined a b = record a { end_offset = max a.end_offset b.end_offset }

-- of two that are joined the first lies before what both do
first_lies : (a b x : ModuleSectionContribution) → LiesBefore (joined a b) x → LiesBefore a x
first_lies a b x (inl section) = inl section
first_lies a b x (inr one) = inr (one.0, omega (arith, one.1))

-- and so does the second
pub second_lies : (a b x : ModuleSectionContribution) → a.section_index ≡ b.section_index → LiesBefore (joined a b) x
    → LiesBefore b x
second_lies a b x same (inl section) = let h : a.section_index < x.section_index = section in inl (omega arith)
second_lies a b x same (inr one) =
    let section : a.section_index ≡ x.section_index = one.0 in
    let end : max a.end_offset b.end_offset ≤ x.start_offset = one.1 in
    inr (omega arith, omega arith)

-- what lies before the first lies before the second, where that starts no earlier
pub lies_before_second : (a b x : ModuleSectionContribution) → a.section_index ≡ b.section_index
    → a.start_offset ≤ b.start_offset → LiesBefore x a → LiesBefore x b
lies_before_second a b x same up (inl section) = inl (omega arith)
lies_before_second a b x same up (inr one) = inr (omega (arith, one.0), omega (arith, one.1))

-- what lies before or after two that are joined lies so of the first
clear_of_first : (a b x : ModuleSectionContribution) → IsClear (joined a b) x → IsClear a x
clear_of_first a b x (inl lies) = inl (first_lies a b x lies)
clear_of_first a b x (inr lies) = inr lies

-- and of the second, where that starts no earlier
clear_of_second : (a b x : ModuleSectionContribution) → is_same_module a b ≡ true → a.start_offset ≤ b.start_offset
    → IsClear (joined a b) x → IsClear b x
clear_of_second a b x same up (inl lies) = inl (second_lies a b x (same_fields a b same).0 lies)
clear_of_second a b x same up (inr lies) = inr (lies_before_second a b x (same_fields a b same).0 up lies)

-- two that are joined have a byte where the first has one
pub joined_filled : (a b : ModuleSectionContribution) → IsFilled a → IsFilled (joined a b)
joined_filled a b filled = omega arith

-- claims of other modules or sections than all intervals, one for one
other_with : (c m : ModuleSectionContribution) (xs : List ModuleSectionContribution)
    → AllByRecursion (IsOther c) (intervals_with m xs) → IsOther c m × AllByRecursion (IsOther c) xs
other_with c m [] others = (others.0, tt)
other_with c m (x ∷ xs) others = by_test (is_same_module m x) refl others where
  by_test : (t : Bool) → is_same_module m x ≡ t → AllByRecursion (IsOther c) (cond t (joined m x ∷ xs) (m ∷ x ∷ xs))
      → IsOther c m × (IsOther c x × AllByRecursion (IsOther c) xs)
  by_test true same apart = (apart.0, (sym (same_of_alike m x c same) ∙ apart.0, apart.1))
  by_test false other apart = apart

-- what is of another module or section than all intervals is so of all claims
pub other_of_claims : (c : ModuleSectionContribution) (ms : List ModuleSectionContribution)
    → AllByRecursion (IsOther c) (intervals_of ms) → AllByRecursion (IsOther c) ms
other_of_claims c [] others = tt
other_of_claims c (m ∷ ms) others =
    let apart = other_with c m (intervals_of ms) others in
    (apart.0, other_of_claims c ms apart.1)

-- where each interval is the only one of its module and section, so is each after the first claim
pub only_behind : (m : ModuleSectionContribution) (xs : List ModuleSectionContribution) → AreOnly (intervals_with m xs)
    → AreOnly xs
only_behind m [] only = tt
only_behind m (x ∷ xs) only = by_test (is_same_module m x) refl only where
  by_test : (t : Bool) → is_same_module m x ≡ t → AreOnly (cond t (joined m x ∷ xs) (m ∷ x ∷ xs)) → AreOnly (x ∷ xs)
  by_test true same here =
      (all_weaker (IsOther m) (IsOther x) (λ y other. sym (same_alike m x y same) ∙ other) xs here.0, here.1)
  by_test false other here = here.1

-- where neighbours never fall and each interval is the only one of its module and section, no claim falls
pub none_falls : (ms : List ModuleSectionContribution) → AreOnly (intervals_of ms) → NeighboursNeverFall ms
    → NoneFalls ms
none_falls [] only up = tt
none_falls (m ∷ []) only up = (tt, tt)
none_falls (m ∷ n ∷ ns) only up =
    let rest = none_falls (n ∷ ns) (only_behind m (intervals_of (n ∷ ns)) only) up.1 in
    (by_test (is_same_module m n) refl rest.0, rest)
  where
    further : is_same_module m n ≡ true → (x : ModuleSectionContribution) → IsNoEarlier n x → IsNoEarlier m x
    further one x above same =
        let first = up.0 one in
        let second = above (sym (same_alike m n x one) ∙ same) in
        (omega (arith, first.0, second.0), omega (arith, first.1, second.1))

    by_test : (t : Bool) → is_same_module m n ≡ t → AllByRecursion (IsNoEarlier n) ns
        → AllByRecursion (IsNoEarlier m) (n ∷ ns)
    by_test true one above = (up.0, all_weaker (IsNoEarlier n) (IsNoEarlier m) (further one) ns above)
    by_test false other above =
        let others = (rw (joins_other m n (intervals_of ns) other) at only).0 in
        all_weaker (IsOther m) (IsNoEarlier m) (λ x apart same. absurd (cc)) (n ∷ ns)
        (other_of_claims m (n ∷ ns) others)

-- where claims of a module and section start no earlier, their intervals don't
pub intervals_behind : (c : ModuleSectionContribution) (ms : List ModuleSectionContribution)
    → AllByRecursion (StartsBehind c) ms → AllByRecursion (StartsBehind c) (intervals_of ms)
intervals_behind c [] up = tt
intervals_behind c (m ∷ ms) up = behind_with (intervals_of ms) (intervals_behind c ms up.1) where
  behind_with : (xs : List ModuleSectionContribution) → AllByRecursion (StartsBehind c) xs
      → AllByRecursion (StartsBehind c) (intervals_with m xs)
  behind_with [] rest = (up.0, tt)
  behind_with (x ∷ xs) rest = by_test (is_same_module m x) where
    by_test : (t : Bool) → AllByRecursion (StartsBehind c) (cond t (joined m x ∷ xs) (m ∷ x ∷ xs))
    by_test true = (up.0, rest.1)
    by_test false = (up.0, rest)

-- intervals that are apart lie each before or after the others
pub clear_of_apart : (ms : List ModuleSectionContribution) → AreApart ms → AreClear ms
clear_of_apart [] apart = tt
clear_of_apart (m ∷ ms) apart =
    (all_weaker (LiesBefore m) (IsClear m) (λ x lies. inl lies) ms apart.1, clear_of_apart ms apart.2)

-- and so does one put in
clear_of_put : (x : ModuleSectionContribution) (ys : List ModuleSectionContribution)
    → AreClear (put contribution_before x ys) → AllByRecursion (IsClear x) ys × AreClear ys
clear_of_put x [] clear = (tt, tt)
clear_of_put x (y ∷ ys) clear = by_test (contribution_before y x) (clear_of_put x ys) clear where
  by_test : (t : Bool) → (AreClear (put contribution_before x ys) → AllByRecursion (IsClear x) ys × AreClear ys)
      → AreClear (cond t (y ∷ put contribution_before x ys) (x ∷ y ∷ ys))
      → AllByRecursion (IsClear x) (y ∷ ys) × AreClear (y ∷ ys)
  by_test true rest here =
      let taken = all_taken contribution_before (IsClear y) x ys here.0 in
      let behind = rest here.1 in
      ((clear_back y x taken.0, behind.0), (taken.1, behind.1))
  by_test false rest here = here

-- what lies each before or after the others in order does so in any order
pub clear_of_order : (xs : List ModuleSectionContribution) → AreClear (in_order contribution_before xs) → AreClear xs
clear_of_order [] clear = tt
clear_of_order (x ∷ xs) clear =
    let taken = clear_of_put x (in_order contribution_before xs) clear in
    (all_of_order contribution_before (IsClear x) xs taken.0, clear_of_order xs taken.1)

-- intervals after a claim are clear where those with it are
pub clear_behind : (c : ModuleSectionContribution) (xs : List ModuleSectionContribution)
    → AllByRecursion (StartsBehind c) xs → AreClear (intervals_with c xs) → AreClear xs
clear_behind c [] up clear = tt
clear_behind c (x ∷ xs) up clear = by_test (is_same_module c x) refl clear where
  by_test : (t : Bool) → is_same_module c x ≡ t → AreClear (cond t (joined c x ∷ xs) (c ∷ x ∷ xs)) → AreClear (x ∷ xs)
  by_test true same here =
      (all_weaker (IsClear (joined c x)) (IsClear x) (λ y. clear_of_second c x y same (up.0 same)) xs here.0, here.1)
  by_test false other here = here.1

-- and a claim is clear of the others then
pub clear_of_others : (c : ModuleSectionContribution) (xs : List ModuleSectionContribution)
    → AreClear (intervals_with c xs)
    → AllByRecursion (IsClearOfOther c) xs
clear_of_others c [] clear = tt
clear_of_others c (x ∷ xs) clear = by_test (is_same_module c x) refl clear where
  by_test : (t : Bool) → is_same_module c x ≡ t → AreClear (cond t (joined c x ∷ xs) (c ∷ x ∷ xs))
      → AllByRecursion (IsClearOfOther c) (x ∷ xs)
  by_test true same here =
      let so = λ (y : ModuleSectionContribution) (clear_y : IsClear (joined c x) y)
      (other : is_same_module c y ≡ false).
      clear_of_first c x y clear_y in
      (λ other. absurd (cc), all_weaker (IsClear (joined c x)) (IsClearOfOther c) so xs here.0)
  by_test false other here = all_weaker (IsClear c) (IsClearOfOther c) (λ y clear_y other. clear_y) (x ∷ xs) here.0

-- what is clear of the others with a claim is so of those after it, where none of them starts earlier
pub clear_of_others_behind : (c s : ModuleSectionContribution) (xs : List ModuleSectionContribution)
    → AllByRecursion (StartsBehind s) xs → AllByRecursion (IsClearOfOther c) (intervals_with s xs)
    → AllByRecursion (IsClearOfOther c) xs
clear_of_others_behind c s [] up clear = tt
clear_of_others_behind c s (x ∷ xs) up clear = by_test (is_same_module s x) refl clear where
  by_test : (t : Bool) → is_same_module s x ≡ t
      → AllByRecursion (IsClearOfOther c) (cond t (joined s x ∷ xs) (s ∷ x ∷ xs))
      → AllByRecursion (IsClearOfOther c) (x ∷ xs)
  by_test true same here = (of_second, here.1) where
    of_second : IsClearOfOther c x
    of_second other =
        let clear_first = here.0 (same_of_alike s x c same ∙ other) in
        clear_back x c (clear_of_second s x c same (up.0 same) (clear_back c (joined s x) clear_first))
  by_test false other here = here.1
