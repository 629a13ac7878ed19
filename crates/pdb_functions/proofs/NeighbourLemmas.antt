-- What the neighbours of a section offset, among starts that ascend, show of the starts in its section.
use Rattle.std.proofs.Common.{◌≡◌, ◌∙◌, ℕ, zero, suc, Bool, true, false, cond, not, List, [], ◌∷◌, Option, Some, None}
use Rattle.std.proofs.Common.{map, refl, sym, ap, arith}
use Rattle.std.specs.Prelude.{⊤, ◌==◌, ◌&&◌, nat_le, nat_lt, find, is_some, option_map, slice_get}
use Rattle.std.specs.List.{AllByRecursion}
use Rattle.std.specs.Option.{option_map_or}
use Rattle.std.proofs.lemmas.Bool.Decides.{nat_tests}
use Rattle.pdb_records.specs.Addresses.{is_same_section_offset}
use Rattle.pdb_records.specs.declared.addresses.PdbInternalSectionOffset.{PdbInternalSectionOffset}
use Rattle.pdb_tables.specs.Pick.{pick}
use Rattle.pdb_functions.specs.declared.global_functions.GlobalFunction as code
use Rattle.pdb_functions.specs.GlobalFunctions.{GlobalFunction, global_function}
use Rattle.pdb_tables.specs.Last.{ahead_of, last_over}
use Rattle.pdb_functions.specs.FunctionMatches.{global_at, next_global, where_passes}
use Rattle.pdb_functions.specs.Spans.{global_function_covers}
use Rattle.pdb_functions.specs.Starts.{is_before, StartsAscend}
use Rattle.pdb_tables.proofs.LastLemmas.{pick-last}
use Rattle.pdb_tables.proofs.PositionLemmas.{map-find}
use Rattle.pdb_functions.proofs.SectionOffsetLemmas.{climbs_in_section, is_before_test}

-- the element that is there starts before all of a list
abbrev IsAhead : {T : Type 0} → (T → PdbInternalSectionOffset) → Option T → List T → Type 0
IsAhead start None xs = ⊤
IsAhead start (Some y) xs = AllByRecursion (λ x. is_before (start y) (start x) ≡ true) xs

-- the last start that passes a test is the last one up to the section offset, where that passes another test
module _ {T : Type 0} (start : T → PdbInternalSectionOffset) (section_offset : PdbInternalSectionOffset)
    (over q : PdbInternalSectionOffset → Bool)
    (agree : (s : PdbInternalSectionOffset) → is_before section_offset s ≡ false → over s ≡ q s)
    (behind : (s : PdbInternalSectionOffset) → is_before section_offset s ≡ true → over s ≡ false)
    (only : (r s : PdbInternalSectionOffset) → is_before r s ≡ true → is_before section_offset s ≡ false → q s ≡ false
    → q r ≡ false) where
  next_ahead : (before : Option T) (x : T) (xs : List T) → IsAhead start before (x ∷ xs) → IsAhead start before xs
  next_ahead None x xs ahead = tt
  next_ahead (Some y) x xs ahead = ahead.1

  clear : (before : Option T) (x : T) (xs : List T) → IsAhead start before (x ∷ xs)
      → is_before section_offset (start x) ≡ false
      → q (start x) ≡ false → where_passes (λ y. q (start y)) before ≡ None
  clear None x xs ahead up_to fails = refl
  clear (Some y) x xs ahead up_to fails = rw (only (start y) (start x) ahead.0 up_to fails) refl

  pub last_up_to_passes : (before : Option T) (xs : List T) → IsAhead start before xs → StartsAscend start xs
      → last_over (λ x. over (start x)) (where_passes (λ x. q (start x)) before) xs
      ≡ where_passes (λ x. q (start x)) (last_over (λ x. not (is_before section_offset (start x))) before xs)
  last_up_to_passes before [] ahead up = refl
  last_up_to_passes before (x ∷ xs) ahead up =
      by_test (is_before section_offset (start x)) refl
      (last_up_to_passes before xs (next_ahead before x xs ahead) up.1)
      (last_up_to_passes (Some x) xs up.0 up.1)
    where
      here : is_before section_offset (start x) ≡ false → (t : Bool) → q (start x) ≡ t
          → cond (over (start x)) (Some x) (where_passes (λ y. q (start y)) before)
          ≡ where_passes (λ y. q (start y)) (Some x)
      here up_to true is = rw (agree (start x) up_to, is) refl
      here up_to false is = rw (agree (start x) up_to, is) (clear before x xs ahead up_to is)

      by_test : (t : Bool) → is_before section_offset (start x) ≡ t
          → last_over (λ y. over (start y)) (where_passes (λ y. q (start y)) before) xs
          ≡ where_passes (λ y. q (start y)) (last_over (λ y. not (is_before section_offset (start y))) before xs)
          → last_over (λ y. over (start y)) (where_passes (λ y. q (start y)) (Some x)) xs
          ≡ where_passes (λ y. q (start y)) (last_over (λ y. not (is_before section_offset (start y))) (Some x) xs)
          → last_over (λ y. over (start y)) (where_passes (λ y. q (start y)) before) (x ∷ xs)
          ≡ where_passes (λ y. q (start y)) (last_over (λ y. not (is_before section_offset (start y))) before (x ∷ xs))
      by_test true is stays next = rw (behind (start x) is, is) stays
      by_test false is stays next =
          ap (λ o. last_over (λ y. over (start y)) o xs) (here is (q (start x)) refl) ∙ next
          ∙ ap (λ t. where_passes (λ y. q (start y))
          (last_over (λ y. not (is_before section_offset (start y))) (cond (not t) (Some x) before) xs)) (sym is)

-- where no more pass a test, what was there stays
last_of_none : {T : Type 0} (over : T → Bool) (before : Option T) (xs : List T)
    → AllByRecursion (λ x. over x ≡ false) xs
    → last_over over before xs ≡ before
last_of_none over before [] none = refl
last_of_none over before (x ∷ xs) none = rw none.0 (last_of_none over before xs none.1)

-- and none is found
find_none : {T : Type 0} (over : T → Bool) (xs : List T) → AllByRecursion (λ x. over x ≡ false) xs → find over xs ≡ None
find_none over [] none = refl
find_none over (x ∷ xs) none = rw none.0 (find_none over xs none.1)

-- a test that fails of all that stand after a start fails of all that follow it
none_behind : {T : Type 0} (start : T → PdbInternalSectionOffset) (over : PdbInternalSectionOffset → Bool)
    (s : PdbInternalSectionOffset)
    → ((r : PdbInternalSectionOffset) → is_before s r ≡ true → over r ≡ false) → (xs : List T)
    → AllByRecursion (λ x. is_before s (start x) ≡ true) xs → AllByRecursion (λ x. over (start x) ≡ false) xs
none_behind start over s fails [] all = tt
none_behind start over s fails (x ∷ xs) all = (fails (start x) all.0, none_behind start over s fails xs all.1)

-- of what starts at a section offset the first is the last
first_is_last : (section_offset : PdbInternalSectionOffset) (fs : List GlobalFunction) → StartsAscend (λ f. f.start) fs
    → global_at section_offset fs ≡ last_over (λ f. is_same_section_offset f.start section_offset) None fs
first_is_last section_offset [] up = refl
first_is_last section_offset (f ∷ fs) up = by_test (is_same_section_offset f.start section_offset) refl
    (first_is_last section_offset fs up.1) where
      other : is_same_section_offset f.start section_offset ≡ true → (r : PdbInternalSectionOffset)
          → is_before f.start r ≡ true → is_same_section_offset r section_offset ≡ false
      other here r before = let h = rw (is_before_test f.start r) at before in grind (arith, nat_tests)

      by_test : (t : Bool) → is_same_section_offset f.start section_offset ≡ t
          → global_at section_offset fs ≡ last_over (λ g. is_same_section_offset g.start section_offset) None fs
          → global_at section_offset (f ∷ fs) ≡ last_over (λ g. is_same_section_offset g.start section_offset) None
          (f ∷ fs)
      by_test true here rest =
          rw here (sym (last_of_none (λ g. is_same_section_offset g.start section_offset) (Some f) fs
          (none_behind (λ g. g.start) (λ r. is_same_section_offset r section_offset) f.start (other here) fs up.0)))
      by_test false away rest = rw away rest

-- the function that starts at a section offset is the last one up to it, where that starts there
pub at_from_last : (section_offset : PdbInternalSectionOffset) (fs : List GlobalFunction)
    → StartsAscend (λ f. f.start) fs
    → where_passes (λ f. is_same_section_offset f.start section_offset)
    (last_over (λ f. not (is_before section_offset f.start)) None fs) ≡ global_at section_offset fs
at_from_last section_offset fs up =
    sym (last_up_to_passes (λ f. f.start) section_offset (λ s. is_same_section_offset s section_offset)
    (λ s. is_same_section_offset s section_offset) (λ s up_to. refl) behind only None fs tt up)
    ∙ sym (first_is_last section_offset fs up)
  where
    behind : (s : PdbInternalSectionOffset) → is_before section_offset s ≡ true
        → is_same_section_offset s section_offset ≡ false
    behind s before = let h = rw (is_before_test section_offset s) at before in grind (arith, nat_tests)

    only : (r s : PdbInternalSectionOffset) → is_before r s ≡ true → is_before section_offset s ≡ false
        → is_same_section_offset s section_offset ≡ false
        → is_same_section_offset r section_offset ≡ false
    only r s before up_to other =
        let h = rw (is_before_test section_offset s) at up_to in let k = rw (is_before_test r s) at before in
        grind (arith, nat_tests)

-- the function over a section offset is the last one up to it, where that starts in the section
pub over_from_last : (section_offset : PdbInternalSectionOffset) (fs : List GlobalFunction)
    → StartsAscend (λ f. f.start) fs
    → where_passes (λ f. f.start.section == section_offset.section)
    (last_over (λ f. not (is_before section_offset f.start)) None fs)
    ≡ pick (global_function_covers section_offset) (λ f. f.start.offset) fs
over_from_last section_offset fs up =
    sym (last_up_to_passes (λ f. f.start) section_offset covers
    (λ s. s.section == section_offset.section) agree behind only None fs tt up)
    ∙ sym (pick-last (global_function_covers section_offset) (λ f. f.start.offset) fs
    (climbs_in_section (global_function_covers section_offset) (λ f. f.start) section_offset.section within fs up))
  where
    covers : PdbInternalSectionOffset → Bool
    covers s = (s.section == section_offset.section) && nat_le s.offset section_offset.offset

    within : (f : GlobalFunction) → global_function_covers section_offset f ≡ true
        → f.start.section ≡ section_offset.section
    within f passes = grind (arith, nat_tests)

    agree : (s : PdbInternalSectionOffset) → is_before section_offset s ≡ false
        → covers s ≡ (s.section == section_offset.section)
    agree s up_to = let h = rw (is_before_test section_offset s) at up_to in grind (arith, nat_tests)

    behind : (s : PdbInternalSectionOffset) → is_before section_offset s ≡ true → covers s ≡ false
    behind s before = let h = rw (is_before_test section_offset s) at before in grind (arith, nat_tests)

    only : (r s : PdbInternalSectionOffset) → is_before r s ≡ true → is_before section_offset s ≡ false
        → (s.section == section_offset.section) ≡ false
        → (r.section == section_offset.section) ≡ false
    only r s before up_to other =
        let h = rw (is_before_test section_offset s) at up_to in let k = rw (is_before_test r s) at before in
        grind (arith, nat_tests)

-- the next function of the section is the first one after the section offset, where that starts in the section
pub next_from_first : (section_offset : PdbInternalSectionOffset) (fs : List GlobalFunction)
    → StartsAscend (λ f. f.start) fs
    → where_passes (λ f. f.start.section == section_offset.section) (find (λ f. is_before section_offset f.start) fs)
    ≡ next_global section_offset fs
next_from_first section_offset [] up = refl
next_from_first section_offset (f ∷ fs) up =
    by_test (is_before section_offset f.start) refl (f.start.section == section_offset.section) refl
    (next_from_first section_offset fs up.1)
  where
    lies_behind : PdbInternalSectionOffset → Bool
    lies_behind s = (s.section == section_offset.section) && nat_lt section_offset.offset s.offset

    passes : is_before section_offset f.start ≡ true → (f.start.section == section_offset.section) ≡ true
        → lies_behind f.start ≡ true
    passes before same = let h = rw (is_before_test section_offset f.start) at before in grind (arith, nat_tests)

    fails : is_before section_offset f.start ≡ false → lies_behind f.start ≡ false
    fails up_to = let h = rw (is_before_test section_offset f.start) at up_to in grind (arith, nat_tests)

    elsewhere : is_before section_offset f.start ≡ true → (f.start.section == section_offset.section) ≡ false
        → (r : PdbInternalSectionOffset)
        → is_before f.start r ≡ true → lies_behind r ≡ false
    elsewhere before other r next =
        let h = rw (is_before_test section_offset f.start) at before in let k = rw (is_before_test f.start r) at next in
        grind (arith, nat_tests)

    not_here : (f.start.section == section_offset.section) ≡ false → lies_behind f.start ≡ false
    not_here other = grind (arith, nat_tests)

    found : Bool → Option GlobalFunction
    found t = where_passes (λ g. g.start.section == section_offset.section)
        (cond t (Some f) (find (λ g. is_before section_offset g.start) fs))

    next : Bool → Option GlobalFunction
    next t = cond t (Some f) (next_global section_offset fs)

    none : is_before section_offset f.start ≡ true → (f.start.section == section_offset.section) ≡ false
        → next_global section_offset fs ≡ None
    none before other = find_none (λ g. lies_behind g.start) fs
        (none_behind (λ g. g.start) lies_behind f.start (elsewhere before other) fs up.0)

    by_test : (t : Bool) → is_before section_offset f.start ≡ t → (u : Bool)
        → (f.start.section == section_offset.section) ≡ u
        → where_passes (λ g. g.start.section == section_offset.section)
        (find (λ g. is_before section_offset g.start) fs)
        ≡ next_global section_offset fs
        → found (is_before section_offset f.start) ≡ next (lies_behind f.start)
    by_test true before true same rest =
        ap found before ∙ ap (λ t. cond t (Some f) None) same ∙ sym (ap next (passes before same))
    by_test true before false other rest =
        ap found before ∙ ap (λ t. cond t (Some f) None) other ∙ sym (ap next (not_here other) ∙ none before other)
    by_test false up_to u is rest = ap found up_to ∙ rest ∙ sym (ap next (fails up_to))

-- what holds of all of a list holds of the one at a place
all_at_place : {T : Type 0} (p : T → Bool) (xs : List T) (place : ℕ) (x : T) → AllByRecursion (λ y. p y ≡ true) xs
    → slice_get xs place ≡ Some x → p x ≡ true
all_at_place p [] place x all at = cc
all_at_place p (y ∷ ys) zero x all at = sym (ap (λ o. option_map_or p o true) at) ∙ all.0
all_at_place p (y ∷ ys) (suc place) x all at = all_at_place p ys place x all.1 at

-- where all of a list pass a test, the first one that passes is at its head
first_of_all : {T : Type 0} (p : T → Bool) (xs : List T) → AllByRecursion (λ y. p y ≡ true) xs
    → find p xs ≡ slice_get xs zero
first_of_all p [] all = refl
first_of_all p (x ∷ xs) all = rw all.0 refl

-- of what ascends the first one after the element ahead of a place stands at that place
first_behind : {T : Type 0} (start : T → PdbInternalSectionOffset) (xs : List T) (place : ℕ) (x : T)
    → StartsAscend start xs → ahead_of None xs place ≡ Some x
    → find (λ y. is_before (start x) (start y)) xs ≡ slice_get xs place
first_behind start xs zero x up at = cc
first_behind start [] (suc place) x up at = cc
first_behind start (y ∷ ys) (suc zero) x up at =
    let same : start y ≡ start x = ap (λ o. option_map_or start o (start y)) at in
    ap (λ s. find (λ z. is_before s (start z)) (y ∷ ys)) (sym same)
    ∙ rw (not_before_itself (start y)) (first_of_all (λ z. is_before (start y) (start z)) ys up.0)
  where
    not_before_itself : (s : PdbInternalSectionOffset) → is_before s s ≡ false
    not_before_itself s = is_before_test s s ∙ grind (arith, nat_tests)
first_behind start (y ∷ ys) (suc (suc place)) x up at =
    rw (behind (start y) (start x) (all_at_place (λ z. is_before (start y) (start z)) ys place x up.0 at))
    (first_behind start ys (suc place) x up.1 at)
  where
    behind : (r s : PdbInternalSectionOffset) → is_before r s ≡ true → is_before s r ≡ false
    behind r s before = let h = rw (is_before_test r s) at before in is_before_test s r ∙ grind (arith, nat_tests)

-- where the one ahead of a place starts at a section offset, the first one after that stands at the place
pub behind_from_place : (section_offset : PdbInternalSectionOffset) (fs : List code.GlobalFunction) (place : ℕ)
    (ahead starting : Option code.GlobalFunction) → StartsAscend (λ f. f.start_offset) fs → ahead ≡ ahead_of None fs place
    → option_map global_function starting
    ≡ where_passes (λ f. is_same_section_offset f.start section_offset) (option_map global_function ahead)
    → is_some starting ≡ true
    → option_map global_function (slice_get fs place)
    ≡ find (λ f. is_before section_offset f.start) (map global_function fs)
behind_from_place section_offset fs place ahead None up at is some = cc
behind_from_place section_offset fs place None (Some g) up at is some = cc
behind_from_place section_offset fs place (Some f) (Some g) up at is some =
    by_test (is_same_section_offset f.start_offset section_offset) refl is
  where
    behind : f.start_offset ≡ section_offset → option_map global_function (slice_get fs place)
        ≡ find (λ g. is_before section_offset g.start) (map global_function fs)
    behind start =
        ap (option_map global_function) (sym (first_behind (λ g. g.start_offset) fs place f up (sym at))
        ∙ ap (λ s. find (λ g. is_before s g.start_offset) fs) start)
        ∙ map-find global_function (λ g. is_before section_offset g.start) fs

    by_test : (t : Bool) → is_same_section_offset f.start_offset section_offset ≡ t
        → Some (global_function g) ≡ cond t (Some (global_function f)) None
        → option_map global_function (slice_get fs place)
        ≡ find (λ g. is_before section_offset g.start) (map global_function fs)
    by_test false other is = cc
    by_test true same is =
        let section : f.start_offset.section ≡ section_offset.section = grind (arith, nat_tests) in
        let offset : f.start_offset.offset ≡ section_offset.offset = grind (arith, nat_tests) in
        behind (ap (λ n. record f.start_offset { section = n }) section
        ∙ ap (λ n. record section_offset { offset = n }) offset)
