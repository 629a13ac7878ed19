-- The first entries with their numbers, among entries whose numbers ascend and among others.
use Rattle.std.proofs.Common.{◌≡◌, ◌∙◌, ℕ, zero, suc, add-one, ◌+◌, ◌-◌, ◌<◌, ◌≤◌, Bool, true, false, nat_eq}
use Rattle.std.proofs.Common.{List, [], ◌∷◌, ◌++◌, take, drop, length, get_or, Some, None, Ok, Err, refl, sym, ap, inl}
use Rattle.std.proofs.Common.{inr, arith}
use Rattle.std.specs.Prelude.{find, slice_get}
use Rattle.std.specs.Option.{option_or}
use Rattle.std.specs.List.Sorted.{IsNonDecreasingBy, IsBinarySearchResult}
use Rattle.std.specs.Ordering.{nat_cmp, ordering_index}
use Rattle.std.proofs.Math.Seq.{take-suc}
use Rattle.std.proofs.lemmas.Bool.{cases_lt}
use Rattle.std.proofs.lemmas.Bool.Decides.{nat_tests}
use Rattle.std.proofs.lemmas.Cmp.{ranked}
use Rattle.std.proofs.lemmas.Option.{slice_get_within, get_or_from_slice_get}
use Rattle.std.proofs.lemmas.List.{take-append-drop, get_or-take, length-take-le, get_or_default}
use Rattle.std.proofs.lemmas.List.Folds.{find-append}
use Rattle.pdb_types.specs.Ascending.{Ascends, first_numbered}

-- the first element that passes a test, where none ahead of it does
first_passing : {T : Type 0} (test : T → Bool) (entries : List T) (position : ℕ) (entry : T)
    → position < length entries → entry ≡ get_or entries position entry → test entry ≡ true
    → ((k : ℕ) → k < position → test (get_or entries k entry) ≡ false) → find test entries ≡ Some entry
first_passing test [] position entry within is passes others = absurd (omega arith)
first_passing test (x ∷ xs) zero entry within is passes others =
    let here : test x ≡ true = ap test (sym is) ∙ passes in rw here (ap Some (sym is))
first_passing test (x ∷ xs) (suc position) entry within is passes others =
    let ahead : test x ≡ false = others 0 (omega arith) in
    rw ahead (first_passing test xs position entry (omega arith) is passes (λ k below. others (suc k) (omega arith)))

-- where no element passes a test, there is no first one
none_passing : {T : Type 0} (test : T → Bool) (entries : List T)
    → ((k : ℕ) (d : T) → k < length entries → test (get_or entries k d) ≡ false) → find test entries ≡ None
none_passing test [] others = refl
none_passing test (x ∷ xs) others =
    let ahead : test x ≡ false = others 0 x (omega arith) in
    rw ahead (none_passing test xs (λ k d below. others (suc k) d (omega arith)))

-- lists of entries that have numbers
module _ {T : Type 0} (number_of : T → ℕ) where
  -- an entry of an ascending list is the first one with its number
  pub first_at : (entries : List T) (position number : ℕ) (entry : T) → Ascends number_of entries
      → position < length entries → entry ≡ get_or entries position entry → number_of entry ≡ number
      → first_numbered number_of number entries ≡ Some entry
  unfolding Ascends
  first_at entries position number entry ascends within is has =
      first_passing (λ x. nat_eq (number_of x) number) entries position entry within is (grind (arith, nat_tests))
      (λ k below.
      let less : number_of (get_or entries k entry) < number_of (get_or entries position entry) =
      ascends k position entry below within in
      let same : number_of (get_or entries position entry) ≡ number_of entry = ap number_of (sym is) in
      grind (arith, nat_tests))

  -- comparisons with a number rise along an ascending list, as a binary search asks
  comparisons_rise : (entries : List T) (number : ℕ) → Ascends number_of entries
      → IsNonDecreasingBy (λ x. ordering_index (nat_cmp (number_of x) number)) entries
  unfolding Ascends
  comparisons_rise entries number ascends i j d order within =
      let here = λ (same : i ≡ j). ap (λ k. number_of (get_or entries k d)) same in
      let rise : number_of (get_or entries i d) ≤ number_of (get_or entries j d) = grind (arith, ascends i j d, here) in
      grind (arith, nat_tests)

  -- where a binary search ends at an entry, it is the first one with the number
  pub first_searched : (entries : List T) (number position : ℕ) (entry : T) → Ascends number_of entries
      → position < length entries → entry ≡ get_or entries position entry
      → IsBinarySearchResult (λ x. nat_cmp (number_of x) number) entries (Ok position)
      → first_numbered number_of number entries ≡ Some entry
  first_searched entries number position entry ascends within is found =
      let has = ranked (number_of (get_or entries position entry)) number _ (sym (found entry)) in
      first_at entries position number entry ascends within is (ap number_of is ∙ has)

  -- where a binary search ends at no entry, none has the number
  pub first_missing : (entries : List T) (number position : ℕ) → Ascends number_of entries
      → IsBinarySearchResult (λ x. nat_cmp (number_of x) number) entries (Err position)
      → first_numbered number_of number entries ≡ None
  first_missing entries number position ascends parted =
      let sides = parted (comparisons_rise entries number ascends) in
      let by = λ (k : ℕ) (d : T). ranked (number_of (get_or entries k d)) number in
      none_passing (λ x. nat_eq (number_of x) number) entries (λ k d within.
      elim (cases_lt k position) [
        | inl below ↦ let less = by k d _ (sym (sides.0 k d (omega arith) below)) in grind (arith, nat_tests)
        | inr above ↦ let more = by k d _ (sym (sides.1 k d above within)) in grind (arith, nat_tests)
      ])

  -- the entries read so far, with one more
  take-more : (entries : List T) (i : ℕ) (entry : T) → i < length entries → entry ≡ get_or entries i entry
      → take (i + 1) entries ≡ take i entries ++ (entry ∷ [])
  take-more entries i entry within is =
      rw (add-one, take-suc entries i entry within, ← is) refl

  -- the first entry among one more is that among those before, else the one more
  pub first_more : (entries : List T) (i : ℕ) (entry : T) → i < length entries → entry ≡ get_or entries i entry
      → (number : ℕ) → first_numbered number_of number (take (i + 1) entries)
      ≡ option_or (first_numbered number_of number (take i entries)) (first_numbered number_of number (entry ∷ []))
  first_more entries i entry within is number =
      rw (take-more entries i entry within is)
      (find-append (λ x. nat_eq (number_of x) number) (take i entries) (entry ∷ []))

  -- what is got at a position is the entry there
  pub got_there : (entries : List T) (i : ℕ) (entry : T) → slice_get entries i ≡ Some entry
      → (i < length entries) × (entry ≡ get_or entries i entry)
  got_there entries i entry there =
      (slice_get_within entries i entry there, sym (get_or_from_slice_get entries i entry entry there))

  -- one more entry of another number is not found
  pub first_other : (entries : List T) (i : ℕ) (entry : T) → i < length entries → entry ≡ get_or entries i entry
      → (number : ℕ) → first_numbered number_of number (take i entries) ≡ None
      → nat_eq (number_of entry) number ≡ false → first_numbered number_of number (take (i + 1) entries) ≡ None
  first_other entries i entry within is number absent other =
      rw (first_more entries i entry within is number, absent, other) refl

  -- one more entry of the number is the first of it, where there was none
  pub first_here : (entries : List T) (i : ℕ) (entry : T) → i < length entries → entry ≡ get_or entries i entry
      → (number : ℕ) → first_numbered number_of number (take i entries) ≡ None
      → nat_eq (number_of entry) number ≡ true → first_numbered number_of number (take (i + 1) entries) ≡ Some entry
  first_here entries i entry within is number absent here =
      rw (first_more entries i entry within is number, absent, here) refl

  -- the first entry of all is that of those at the beginning, else that of the others
  pub first_split : (entries : List T) (i number : ℕ) → first_numbered number_of number entries
      ≡ option_or (first_numbered number_of number (take i entries)) (first_numbered number_of number (drop i entries))
  first_split entries i number =
      let test : T → Bool = λ x. nat_eq (number_of x) number in
      ap (λ xs. find test xs) (sym (take-append-drop i entries)) ∙ find-append test (take i entries) (drop i entries)

  -- what is found so far is what is found in all
  pub first_take : (entries : List T) (i number : ℕ) (entry : T)
      → first_numbered number_of number (take i entries) ≡ Some entry
      → first_numbered number_of number entries ≡ Some entry
  first_take entries i number entry found =
      rw (first_split entries i number, found) refl

  -- no entries ascend
  pub ascends_none : Ascends number_of []
  unfolding Ascends
  ascends_none ahead behind d order within = absurd (omega arith)

  -- entries at the beginning of a list ascend where the list has them
  ascending_first : (entries : List T) (i : ℕ) → i ≤ length entries → Ascends number_of (take i entries)
      → (ahead behind : ℕ) (d : T) → ahead < behind → behind < i
      → number_of (get_or entries ahead d) < number_of (get_or entries behind d)
  unfolding Ascends
  ascending_first entries i within ascends ahead behind d order inside =
      let count : length (take i entries) ≡ i = length-take-le i entries within in
      let read = ascends ahead behind d order (omega arith) in
      rw (get_or-take i entries ahead d (omega arith), get_or-take i entries behind d inside) at read

  -- entries ascend with one more whose number is above that of the last one
  pub ascends_more : (entries : List T) (i : ℕ) (entry : T) → i < length entries → entry ≡ get_or entries i entry
      → ((d : T) → 0 < i → number_of (get_or entries (i - 1) d) < number_of entry) → Ascends number_of (take i entries)
      → Ascends number_of (take (i + 1) entries)
  unfolding Ascends
  ascends_more entries i entry within is above ascends ahead behind d order inside =
      let more : length (take (i + 1) entries) ≡ i + 1 = length-take-le (i + 1) entries (omega arith) in
      let known = ascending_first entries i (omega arith) ascends in
      let here : number_of (get_or entries i d) ≡ number_of entry =
      ap number_of (get_or_default entries i d entry within ∙ sym is) in
      let last = λ (some : 0 < i). above d some in
      rw (get_or-take (i + 1) entries ahead d (omega arith), get_or-take (i + 1) entries behind d (omega arith))
      (elim (cases_lt behind i) [
        | inl before ↦ known ahead behind d order before
        | inr after ↦
            let there : behind ≡ i = omega arith in
            rw (there, here) (elim (cases_lt ahead (i - 1)) [
              | inl lower ↦ let less = known ahead (i - 1) d lower (omega arith) in
                  omega (arith, less, last (omega arith))
              | inr highest ↦ let same : ahead ≡ i - 1 = omega arith in rw same (last (omega arith))
            ])
      ])

  -- the same, where the last one was read
  pub ascends_above : (entries : List T) (i : ℕ) (entry : T) → i < length entries → entry ≡ get_or entries i entry
      → (last : ℕ) (before : T) → last ≡ i - 1 → before ≡ get_or entries last before
      → number_of before < number_of entry → Ascends number_of (take i entries)
      → Ascends number_of (take (i + 1) entries)
  ascends_above entries i entry within is last before ahead is_before less ascends =
      ascends_more entries i entry within is (λ d some.
      let there : get_or entries (i - 1) d ≡ before =
      get_or_default entries (i - 1) d before (omega arith)
      ∙ (ap (λ k. get_or entries k before) (sym ahead) ∙ sym is_before) in
      rw there less)
      ascends
