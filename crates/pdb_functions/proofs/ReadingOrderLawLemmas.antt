-- The intervals of claims in order are the intervals in order, where joining in reading order loses nothing.
use Rattle.std.proofs.Common.{◌≡◌, ◌∙◌, ◌≤◌, Bool, true, false, cond, List, [], ◌∷◌, Option, None, Ok, refl}
use Rattle.std.proofs.Common.{sym, ap, inl, inr, arith}
use Rattle.std.specs.Prelude.{option_map, if◌then◌else◌}
use Rattle.std.specs.List.{AllByRecursion}
use Rattle.pdb_records.specs.declared.addresses.ImageSectionHeader.{ImageSectionHeader}
use Rattle.pdb_records.specs.declared.debug_information.DebugInformation.{DebugInformation}
use Rattle.pdb_records.specs.declared.error.Error.TheVariants.{Stream}
use Rattle.pdb_errors.specs.declared.error.Error.{Error}
use Rattle.pdb_errors.specs.declared.error.Error.TheVariants.{PdbError}
use Rattle.pdb_errors.specs.Outcomes.{first_refusal, unless}
use Rattle.pdb_functions.specs.declared.merged_contributions.ModuleSectionContribution.{ModuleSectionContribution}
use Rattle.pdb_tables.specs.InOrder.{put, in_order}
use Rattle.pdb_functions.specs.MergedContributions.{claims, is_same_module, refused_ends, contribution_before, intervals_with}
use Rattle.pdb_functions.specs.MergedContributions.{intervals_of, overlap_after, merged_contributions}
use Rattle.pdb_functions.specs.ReadingOrder.{AreOnly, StartsNeverFall, reading_intervals, refusal_after}
use Rattle.pdb_functions.specs.ReadingOrder.{joining_refusal, merged_in_reading_order}
use Rattle.pdb_functions.specs.LookupLaws.{IsFilled, LiesBefore}
use Rattle.pdb_tables.proofs.SortLemmas.{Rises, rises_in_order}
use Rattle.pdb_functions.proofs.ContributionLemmas.{contributions_rank, both_accepted}
use Rattle.pdb_functions.proofs.OrderLemmas.{all_weaker, all_in_order}
use Rattle.pdb_functions.proofs.IntervalLemmas.{same_fields, starts_rise, apart_from_starts, intervals_filled}
use Rattle.pdb_functions.proofs.MergedLemmas.{claims_filled, unless_accepted}
use Rattle.pdb_functions.proofs.ReadingOrderLemmas.{same_of_alike, reading_intervals_are}
use Rattle.pdb_functions.proofs.ReadingOrderLemmas.{neither_refused, ends_accepted_in_reading, IsNoEarlier, never_fall}
use Rattle.pdb_functions.proofs.ClearLemmas.{starts_before, not_before, before_when_lies, behind_when_lies}
use Rattle.pdb_functions.proofs.ClearLemmas.{starts_behind, IsOther, StartsBehind, IsClear, IsClearOfOther, AreClear}
use Rattle.pdb_functions.proofs.ClearLemmas.{NoneFalls, other_back, joined, second_lies, lies_before_second}
use Rattle.pdb_functions.proofs.ClearLemmas.{joined_filled, only_behind, none_falls, intervals_behind}
use Rattle.pdb_functions.proofs.ClearLemmas.{clear_of_apart, clear_of_order, clear_behind, clear_of_others}
use Rattle.pdb_functions.proofs.ClearLemmas.{clear_of_others_behind}

-- intervals in order with a claim: joined with the first one of its module and section, or else put in its place
abbrev pub with_claim : ModuleSectionContribution → List ModuleSectionContribution → List ModuleSectionContribution
with_claim c [] = c ∷ []
with_claim c (x ∷ xs) =
    if is_same_module c x then joined c x ∷ xs
    else if contribution_before x c then x ∷ with_claim c xs
    else c ∷ x ∷ xs

-- where it joins none, it is put in its place
put_is_with : (c : ModuleSectionContribution) (xs : List ModuleSectionContribution) → AllByRecursion (IsOther c) xs
    → put contribution_before c xs ≡ with_claim c xs
put_is_with c [] others = refl
put_is_with c (x ∷ xs) others = by_test (contribution_before x c) refl (put_is_with c xs others.1) where
  by_test : (t : Bool) → contribution_before x c ≡ t → put contribution_before c xs ≡ with_claim c xs
      → put contribution_before c (x ∷ xs) ≡ with_claim c (x ∷ xs)
  by_test true is rest = rw (others.0, is, rest) refl
  by_test false is rest = rw (others.0, is) refl

-- where it joins one, the joined one has the place of that
put_joined : (c r : ModuleSectionContribution) (xs : List ModuleSectionContribution) → is_same_module c r ≡ true
    → c.start_offset ≤ r.start_offset → IsFilled c → IsFilled r → AllByRecursion IsFilled xs
    → AllByRecursion (IsOther c) xs → AllByRecursion (IsClear (joined c r)) xs
    → put contribution_before (joined c r) xs ≡ with_claim c (put contribution_before r xs)
put_joined c r [] same up filled filled_r filled_xs others clear = rw same refl
put_joined c r (x ∷ xs) same up filled filled_r filled_xs others clear =
    by_side clear.0 (put_joined c r xs same up filled filled_r filled_xs.1 others.1 clear.1)
  where
    section : c.section_index ≡ r.section_index
    section = (same_fields c r same).0

    by_side : IsClear (joined c r) x
        → put contribution_before (joined c r) xs ≡ with_claim c (put contribution_before r xs)
        → put contribution_before (joined c r) (x ∷ xs) ≡ with_claim c (put contribution_before r (x ∷ xs))
    by_side (inl lies) rest =
        let one = behind_when_lies (joined c r) x (joined_filled c r filled) lies in
        let other = behind_when_lies r x filled_r (second_lies c r x section lies) in
        rw (one, other, same) refl
    by_side (inr lies) rest =
        let one = before_when_lies x (joined c r) filled_xs.0 lies in
        let first = before_when_lies x c filled_xs.0 lies in
        let second = before_when_lies x r filled_xs.0 (lies_before_second c r x section up lies) in
        rw (one, second, others.0, first, rest) refl

-- the intervals with one more claim, in order, are those in order with that claim
pub in_order_with : (c : ModuleSectionContribution) (xs : List ModuleSectionContribution) → IsFilled c
    → AllByRecursion IsFilled xs → AllByRecursion (StartsBehind c) xs → AreOnly (intervals_with c xs)
    → AreClear (intervals_with c xs)
    → in_order contribution_before (intervals_with c xs) ≡ with_claim c (in_order contribution_before xs)
in_order_with c [] filled filled_xs up only clear = refl
in_order_with c (x ∷ xs) filled filled_xs up only clear = by_test (is_same_module c x) refl only clear where
  by_test : (t : Bool) → is_same_module c x ≡ t → AreOnly (cond t (joined c x ∷ xs) (c ∷ x ∷ xs))
      → AreClear (cond t (joined c x ∷ xs) (c ∷ x ∷ xs))
      → in_order contribution_before (cond t (joined c x ∷ xs) (c ∷ x ∷ xs))
      ≡ with_claim c (in_order contribution_before (x ∷ xs))
  by_test true same only_here clear_here =
      put_joined c x (in_order contribution_before xs) same (up.0 same) filled filled_xs.0 (
      all_in_order contribution_before IsFilled xs filled_xs.1) (
      all_in_order contribution_before (IsOther c) xs only_here.0) (
      all_in_order contribution_before (IsClear (joined c x)) xs clear_here.0)
  by_test false other only_here clear_here =
      put_is_with c (in_order contribution_before (x ∷ xs)) (
      all_in_order contribution_before (IsOther c) (x ∷ xs) only_here.0)

-- where a claim comes no later than another, it joins the first interval with that, or stands in front of all
in_front : (c s : ModuleSectionContribution) (xs : List ModuleSectionContribution) → IsFilled c → IsFilled s
    → contribution_before s c ≡ false → AllByRecursion (IsClearOfOther c) (intervals_with s xs)
    → intervals_with c (intervals_with s xs) ≡ with_claim c (intervals_with s xs)
in_front c s xs filled filled_s behind clear = by_list xs clear where
  -- what lies before the claim starts before it
  lies_after : (q : ModuleSectionContribution) → IsFilled q → q.section_index ≡ s.section_index
      → q.start_offset ≡ s.start_offset → LiesBefore q c → contribution_before s c ≡ true
  lies_after q filled_q one start (inl section) = starts_before s c (inl (omega arith))
  lies_after q filled_q one start (inr here) = starts_before s c (inr (omega (arith, here.0), omega (arith, here.1)))

  head_behind : (q : ModuleSectionContribution) → IsFilled q → q.section_index ≡ s.section_index
      → q.start_offset ≡ s.start_offset → IsClear c q → contribution_before q c ≡ false
  head_behind q filled_q one start (inl lies) = behind_when_lies c q filled lies
  head_behind q filled_q one start (inr lies) = let e = lies_after q filled_q one start lies in absurd (cc)

  at_head : (q : ModuleSectionContribution) (qs : List ModuleSectionContribution) → IsFilled q
      → q.section_index ≡ s.section_index → q.start_offset ≡ s.start_offset → IsClearOfOther c q
      → intervals_with c (q ∷ qs) ≡ with_claim c (q ∷ qs)
  at_head q qs filled_q one start clear_q = by_test (is_same_module c q) refl where
    by_test : (t : Bool) → is_same_module c q ≡ t → intervals_with c (q ∷ qs) ≡ with_claim c (q ∷ qs)
    by_test true same = rw same refl
    by_test false other = let e = head_behind q filled_q one start (clear_q other) in rw (other, e) refl

  by_list : (ys : List ModuleSectionContribution) → AllByRecursion (IsClearOfOther c) (intervals_with s ys)
      → intervals_with c (intervals_with s ys) ≡ with_claim c (intervals_with s ys)
  by_list [] clear_here = at_head s [] filled_s refl refl clear_here.0
  by_list (y ∷ ys) clear_here = by_test (is_same_module s y) clear_here where
    by_test : (t : Bool) → AllByRecursion (IsClearOfOther c) (cond t (joined s y ∷ ys) (s ∷ y ∷ ys))
        → intervals_with c (cond t (joined s y ∷ ys) (s ∷ y ∷ ys))
        ≡ with_claim c (cond t (joined s y ∷ ys) (s ∷ y ∷ ys))
    by_test true clear_first = at_head (joined s y) ys (joined_filled s y filled_s) refl refl clear_first.0
    by_test false clear_first = at_head s (y ∷ ys) filled_s refl refl clear_first.0

-- it does not matter which of two claims comes to the intervals first, where they are not of one module and section
further_back : (c s : ModuleSectionContribution) (xs : List ModuleSectionContribution) → IsFilled c → IsFilled s
    → AllByRecursion IsFilled xs → contribution_before s c ≡ true → is_same_module c s ≡ false
    → AllByRecursion (IsClearOfOther c) (intervals_with s xs)
    → intervals_with s (with_claim c xs) ≡ with_claim c (intervals_with s xs)
further_back c s [] filled filled_s filled_xs ahead other clear = rw (other_back c s other, other, ahead) refl
further_back c s (x ∷ xs) filled filled_s filled_xs ahead other clear = by_test (is_same_module s x) refl clear where
  back : is_same_module s c ≡ false
  back = other_back c s other

  -- the joined interval lies before the claim
  lies_first : IsClear c (joined s x) → LiesBefore (joined s x) c
  lies_first (inr lies) = lies
  lies_first (inl lies) = let e : contribution_before s c ≡ false = behind_when_lies c s filled lies in absurd (cc)

  by_tests : (one ahead_x : Bool) → is_same_module s x ≡ false
      → intervals_with s (cond one (joined c x ∷ xs) (cond ahead_x (x ∷ with_claim c xs) (c ∷ x ∷ xs)))
      ≡ s ∷ cond one (joined c x ∷ xs) (cond ahead_x (x ∷ with_claim c xs) (c ∷ x ∷ xs))
  by_tests true ahead_x apart = rw back refl
  by_tests false true apart = rw apart refl
  by_tests false false apart = rw back refl

  by_test : (t : Bool) → is_same_module s x ≡ t
      → AllByRecursion (IsClearOfOther c) (cond t (joined s x ∷ xs) (s ∷ x ∷ xs))
      → intervals_with s (with_claim c (x ∷ xs)) ≡ with_claim c (intervals_with s (x ∷ xs))
  by_test true same clear_here =
      let lies = lies_first (clear_here.0 other) in
      let other_x : is_same_module c x ≡ false = sym (same_of_alike s x c same) ∙ other in
      let first = before_when_lies (joined s x) c (joined_filled s x filled_s) lies in
      let second = before_when_lies x c filled_xs.0 (second_lies s x c (same_fields s x same).0 lies) in
      rw (same, other_x, second, same, other, first) refl
  by_test false apart clear_here =
      rw (apart, other, ahead) (by_tests (is_same_module c x) (contribution_before x c) apart)

-- the intervals of claims in order with one more are theirs with that claim
pub intervals_of_put : (c : ModuleSectionContribution) (ss : List ModuleSectionContribution) → IsFilled c
    → AllByRecursion IsFilled ss → Rises contribution_before ss → AllByRecursion (IsNoEarlier c) ss
    → AllByRecursion (IsClearOfOther c) (intervals_of ss)
    → intervals_of (put contribution_before c ss) ≡ with_claim c (intervals_of ss)
intervals_of_put c [] filled filled_ss rises up clear = refl
intervals_of_put c (s ∷ ss) filled filled_ss rises up clear =
    by_test (contribution_before s c) refl (intervals_of_put c ss filled filled_ss.1 rises.1 up.1)
  where
    is_other : (t : Bool) → is_same_module c s ≡ t → contribution_before s c ≡ true → is_same_module c s ≡ false
    is_other true same ahead = let e = not_before c s same (up.0 same).0 (up.0 same).1 in absurd (cc)
    is_other false other ahead = other

    behind_s : AllByRecursion (StartsBehind s) (intervals_of ss)
    behind_s =
        intervals_behind s ss (
        all_weaker (λ x. contribution_before x s ≡ false) (StartsBehind s) (starts_behind s) ss rises.0)

    by_test : (t : Bool) → contribution_before s c ≡ t
        → (AllByRecursion (IsClearOfOther c) (intervals_of ss)
        → intervals_of (put contribution_before c ss) ≡ with_claim c (intervals_of ss))
        → intervals_of (cond t (s ∷ put contribution_before c ss) (c ∷ s ∷ ss)) ≡ with_claim c (intervals_of (s ∷ ss))
    by_test true ahead rest =
        let other = is_other (is_same_module c s) refl ahead in
        ap (intervals_with s) (rest (clear_of_others_behind c s (intervals_of ss) behind_s clear))
        ∙ further_back c s (intervals_of ss) filled filled_ss.0 (intervals_filled ss filled_ss.1) ahead other clear
    by_test false behind rest = in_front c s (intervals_of ss) filled filled_ss.0 behind clear

-- the intervals of claims in order are their intervals in order, where each is the only one of its module and section,
-- none falls, and none overlaps another
pub intervals_in_order : (ms : List ModuleSectionContribution) → AllByRecursion IsFilled ms → NoneFalls ms
    → AreOnly (intervals_of ms) → AreClear (intervals_of ms)
    → intervals_of (in_order contribution_before ms) ≡ in_order contribution_before (intervals_of ms)
intervals_in_order [] filled up only clear = refl
intervals_in_order (m ∷ ms) filled up only clear =
    let only_rest = only_behind m (intervals_of ms) only in
    from_rest (intervals_in_order ms filled.1 up.1 only_rest (clear_behind m (intervals_of ms) behind clear))
  where
    behind : AllByRecursion (StartsBehind m) (intervals_of ms)
    behind = intervals_behind m ms
        (all_weaker (IsNoEarlier m) (StartsBehind m) (λ x later same. (later same).0) ms up.0)

    clear_rest : AllByRecursion (IsClearOfOther m) (in_order contribution_before (intervals_of ms))
    clear_rest =
        all_in_order contribution_before (IsClearOfOther m) (intervals_of ms) (
        clear_of_others m (intervals_of ms) clear)

    from_rest : intervals_of (in_order contribution_before ms) ≡ in_order contribution_before (intervals_of ms)
        → intervals_of (in_order contribution_before (m ∷ ms)) ≡ in_order contribution_before (intervals_of (m ∷ ms))
    from_rest rest =
        let filled_rest = all_in_order contribution_before IsFilled ms filled.1 in
        let later = all_in_order contribution_before (IsNoEarlier m) ms up.0 in
        intervals_of_put m (in_order contribution_before ms) filled.0 filled_rest (
        rises_in_order contributions_rank ms) later (rw rest clear_rest)
        ∙ (ap (with_claim m) rest
        ∙ sym (in_order_with m (intervals_of ms) filled.0 (intervals_filled ms filled.1) behind only clear))

-- intervals in order of which none overlaps the next lie each before or after the others
pub clear_of_accepted : (ms : List ModuleSectionContribution) → AllByRecursion IsFilled ms
    → overlap_after None (in_order contribution_before ms) ≡ None → AreClear ms
clear_of_accepted ms filled accepted =
    let filled_order = all_in_order contribution_before IsFilled ms filled in
    let rises_order = rises_in_order contributions_rank ms in
    clear_of_order ms (of_order (in_order contribution_before ms) filled_order rises_order accepted)
  where
    of_order : (xs : List ModuleSectionContribution) → AllByRecursion IsFilled xs → Rises contribution_before xs
        → overlap_after None xs ≡ None → AreClear xs
    of_order [] full rises apart = tt
    of_order (x ∷ xs) full rises apart =
        clear_of_apart (x ∷ xs) (apart_from_starts x xs full.0 full.1 (starts_rise (x ∷ xs) rises) apart)

-- an answer is another's where nothing is refused and the lists are the same
same_answer : (refusal : Option Error) (xs ys table : List ModuleSectionContribution) → refusal ≡ None → xs ≡ ys
    → unless (overlap_after None ys) (Ok ys) ≡ Ok table
    → unless refusal (unless (overlap_after None xs) (Ok xs)) ≡ Ok table
same_answer refusal xs ys table none same is = rw (none, same) is

-- where joining in reading order refuses nothing, no module comes back in a section and starts never fall, the merged
-- contributions are the same
pub in_reading_order_stay : (sections : List ImageSectionHeader) (debug : DebugInformation)
    (table : List ModuleSectionContribution) → merged_in_reading_order sections debug ≡ Ok table
    → AreOnly (reading_intervals None (claims sections debug.section_contributions.items))
    → StartsNeverFall (claims sections debug.section_contributions.items)
    → merged_contributions sections debug ≡ Ok table
in_reading_order_stay sections debug table is only starts =
    let cs = claims sections debug.section_contributions.items in
    let intervals = in_order contribution_before (reading_intervals None cs) in
    let fault : Option Error = option_map (λ fault. PdbError (Stream fault)) debug.section_contributions.fault in
    let reading = unless_accepted (joining_refusal sections debug)
    (unless (overlap_after None intervals) (Ok intervals)) table is in
    let overlap = unless_accepted (overlap_after None intervals) (Ok intervals) table reading.1 in
    let accepted = both_accepted (refusal_after None cs) fault reading.0 in
    let are : reading_intervals None cs ≡ intervals_of cs = reading_intervals_are cs accepted.0 in
    let filled = claims_filled sections debug.section_contributions.items in
    let only_intervals : AreOnly (intervals_of cs) = rw (← are) only in
    let falls = none_falls cs only_intervals (never_fall cs accepted.0 starts) in
    let clear = clear_of_accepted (intervals_of cs) (intervals_filled cs filled) (rw (← are) overlap.0) in
    same_answer
    (first_refusal (refused_ends cs) fault) (intervals_of (in_order contribution_before cs)) intervals table (
    neither_refused (refused_ends cs) fault (ends_accepted_in_reading cs accepted.0) accepted.1) (
    intervals_in_order cs filled falls only_intervals clear ∙ ap (in_order contribution_before) (sym are)) reading.1
