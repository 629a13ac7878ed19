-- A chain of types ends within as many steps as there are entries, or never.
use Rattle.std.proofs.Common.{◌≡◌, ◌⊎◌, inl, inr, ◌^◌, ◌<◌, ◌∙◌, ℕ, zero, suc, ◌≤◌, Bool, true, false, cond, eqb}
use Rattle.std.proofs.Common.{List, [], ◌∷◌, length, map, refl, sym, ap, subst, arith}
use Rattle.std.specs.Prelude.{Option, Some, None, Result, Ok, Err}
use Rattle.std.specs.List.{AllByRecursion, IsDistinct, list_any}
use Rattle.std.specs.Result.{result_unwrap_or}
use Rattle.std.proofs.lemmas.Bool.{false_from_ne_true, eqb-true}
use Rattle.std.proofs.lemmas.Bool.Decides.{nat_tests}
use Rattle.std.proofs.lemmas.Cmp.{nat_eq_equiv}
use Rattle.std.proofs.lemmas.List.{length-map}
use Rattle.std.proofs.lemmas.Map.Made.{length-le_from_is_member}
use Rattle.pdb_records.specs.Readings.{Read}
use Rattle.pdb_records.specs.declared.types.Item.{Item}
use Rattle.pdb_records.specs.declared.types.TypeIndex.{TypeIndex}
use Rattle.pdb_records.specs.declared.types.TypeData.{TypeData}
use Rattle.pdb_types.specs.declared.type_sizes.TypeSize.{TypeSize}
use Rattle.pdb_types.specs.declared.type_sizes.Step.{Step}
use Rattle.pdb_types.specs.declared.type_sizes.Step.TheVariants.{Ended, Next}
use Rattle.pdb_errors.specs.Outcomes.{and_then}
use Rattle.pdb_types.specs.ReadError.{ReadErrorView, Missing}
use Rattle.pdb_types.specs.ItemMap.{first_item}
use Rattle.pdb_types.specs.ItemReading.{said, entry}
use Rattle.pdb_types.specs.Resolution.{resolved}
use Rattle.pdb_types.specs.TypeInputs.{LinkInputs}
use Rattle.pdb_types.specs.TypeSizes.{no_size, step_after, step, onward, ended, size_along, type_size}
use Rattle.pdb_types.specs.SizeLaws.{EndsWith, NeverEnds}
use Rattle.pdb_types.proofs.SizeLemmas.{size_along-ended}

-- a chain ends after one number of steps only
pub steps_to_end : (next : ℕ → Step) (a b index : ℕ) (x y : TypeSize) → EndsWith next a index x
    → EndsWith next b index y → a ≡ b
steps_to_end next zero zero index x y one two = refl
steps_to_end next zero (suc b) index x y one two = let e : Ended x ≡ Next two.0 = sym one ∙ two.1 in cc
steps_to_end next (suc a) zero index x y one two = let e : Next one.0 ≡ Ended y = sym one.1 ∙ two in cc
steps_to_end next (suc a) (suc b) index x y one two =
    let e : Next one.0 ≡ Next two.0 = sym one.1 ∙ two.1 in
    let same : two.0 ≡ one.0 = cc in
    ap suc (steps_to_end next a b one.0.0 x y one.2
    (subst (λ (further : TypeIndex). EndsWith next b further.0 y) same two.2))

-- a chain that ends within the steps allowed has the size of its end
pub size_along-within : (next : ℕ → Step) (allowed steps index : ℕ) (size : TypeSize) → steps ≤ allowed
    → EndsWith next steps index size → size_along next allowed index ≡ size
size_along-within next allowed zero index size within ends = size_along-ended next allowed index size ends
size_along-within next zero (suc steps) index size within ends = absurd (omega arith)
size_along-within next (suc allowed) (suc steps) index size within ends =
    ap (onward (size_along next allowed)) ends.1 ∙ size_along-within next allowed steps ends.0.0 size
    (omega arith) ends.2

-- a chain that never ends has no size
pub size_along-never : (next : ℕ → Step) (allowed index : ℕ) → NeverEnds next index
    → size_along next allowed index ≡ no_size
size_along-never next zero index never = by_step (next index) refl where
  by_step : (s : Step) → next index ≡ s → ended s ≡ no_size
  by_step (Ended size) is = absurd (never zero size is)
  by_step (Next further) is = refl
size_along-never next (suc allowed) index never =
    by_step (next index) refl (λ further is. size_along-never next allowed further.0
    (λ steps size ends. never (suc steps) size (further, is, ends)))
  where
    by_step : (s : Step) → next index ≡ s
        → ((further : TypeIndex) → next index ≡ Next further
        → size_along next allowed further.0 ≡ record { size = 0; met = None })
        → onward (size_along next allowed) s ≡ no_size
    by_step (Ended size) is onwards = absurd (never zero size is)
    by_step (Next further) is onwards = onwards further is

-- of indices that go on, those with the same key are followed by the same
abbrev KeysDetermine : (ℕ → Step) → (ℕ → ℕ) → Type 0
KeysDetermine next key = (i j : ℕ) (further other : TypeIndex) → next i ≡ Next further → next j ≡ Next other
    → key i ≡ key j → next i ≡ next j

-- the keys of indices that go on are in a list
abbrev KeysAmong : (ℕ → Step) → (ℕ → ℕ) → List ℕ → Type 0
KeysAmong next key keys = (i : ℕ) (further : TypeIndex) → next i ≡ Next further → list_any (eqb (key i)) keys ≡ true

-- the keys of the indices of a chain that go on
abbrev keys_along : (next : ℕ → Step) (key : ℕ → ℕ) (steps index : ℕ) (size : TypeSize)
    → EndsWith next steps index size → List ℕ
keys_along next key zero index size ends = []
keys_along next key (suc steps) index size ends = key index ∷ keys_along next key steps ends.0.0 size ends.2

-- there are as many as the chain has steps
length-keys_along : (next : ℕ → Step) (key : ℕ → ℕ) (steps index : ℕ) (size : TypeSize)
    (ends : EndsWith next steps index size) → length (keys_along next key steps index size ends) ≡ steps
length-keys_along next key zero index size ends = refl
length-keys_along next key (suc steps) index size ends = ap suc (length-keys_along next key steps ends.0.0 size ends.2)

-- all of them are in the list that has the keys
keys_along-among : (next : ℕ → Step) (key : ℕ → ℕ) (keys : List ℕ) (steps index : ℕ) (size : TypeSize)
    (ends : EndsWith next steps index size) → KeysAmong next key keys → (q : ℕ)
    → list_any (eqb q) (keys_along next key steps index size ends) ≡ true → list_any (eqb q) keys ≡ true
keys_along-among next key keys zero index size ends among q here = cc
keys_along-among next key keys (suc steps) index size ends among q here = grind (
  arith,
  nat_tests,
  among index ends.0 ends.1,
  keys_along-among next key keys steps ends.0.0 size ends.2 among q,
)

-- an index that is farther from its end than all of a chain has a key of its own
keys_along-apart : (next : ℕ → Step) (key : ℕ → ℕ) → KeysDetermine next key → (far first : ℕ) (end : TypeSize)
    → EndsWith next (suc far) first end → (steps index : ℕ) (size : TypeSize) (ends : EndsWith next steps index size)
    → steps ≤ far → AllByRecursion (λ q. eqb (key first) q ≡ false) (keys_along next key steps index size ends)
keys_along-apart next key determine far first end long zero index size ends within = tt
keys_along-apart next key determine far first end long (suc steps) index size ends within = (
  false_from_ne_true (eqb (key first) (key index)) (λ same.
      let e = determine first index long.0 ends.0 long.1 ends.1 (eqb-true (key first) (key index) same) in
      let equal : suc far ≡ suc steps = steps_to_end next (suc far) (suc steps) index end size
      (long.0, sym e ∙ long.1, long.2) ends in
      absurd (omega arith)),
  keys_along-apart next key determine far first end long steps ends.0.0 size ends.2 (omega arith),
)

-- the indices of a chain that go on have different keys
keys_along-distinct : (next : ℕ → Step) (key : ℕ → ℕ) → KeysDetermine next key
    → (steps index : ℕ) (size : TypeSize) (ends : EndsWith next steps index size)
    → IsDistinct eqb (keys_along next key steps index size ends)
unfolding IsDistinct
keys_along-distinct next key determine zero index size ends = tt
keys_along-distinct next key determine (suc steps) index size ends = (
  keys_along-apart next key determine steps index size ends steps ends.0.0 size ends.2 (omega arith),
  keys_along-distinct next key determine steps ends.0.0 size ends.2,
)

-- a chain that ends has no more steps than there are keys
steps-le_keys : (next : ℕ → Step) (key : ℕ → ℕ) (keys : List ℕ) → KeysDetermine next key → KeysAmong next key keys
    → (steps index : ℕ) (size : TypeSize) → EndsWith next steps index size → steps ≤ length keys
steps-le_keys next key keys determine among steps index size ends =
    rw length-keys_along at (length-le_from_is_member nat_eq_equiv (keys_along next key steps index size ends) keys
    (keys_along-distinct next key determine steps index size ends)
    (keys_along-among next key keys steps index size ends among))

-- the numbers of entries
abbrev numbers : List (Item TypeIndex TypeData) → List ℕ
numbers items = map (λ item. item.index.0) items

-- a number with an entry is one of theirs
first_item-among : (number : ℕ) (items : List (Item TypeIndex TypeData)) (found : Item TypeIndex TypeData)
    → first_item (λ i. i.0) number items ≡ Some found → list_any (eqb number) (numbers items) ≡ true
first_item-among number [] found is = cc
first_item-among number (item ∷ items) found is = grind (arith, nat_tests, first_item-among number items found)

-- what follows an index that stands for this
abbrev follows : Read (Item TypeIndex TypeData) → ℕ → Result ℕ ReadErrorView → Step
follows types pointer stands =
    step_after pointer types.items
    (and_then stands (λ number. and_then (entry (λ i. i.0) types number) (λ content. Ok (number, content))))

-- an index that goes on stands for the number of an entry
follows-entry : (types : Read (Item TypeIndex TypeData)) (pointer : ℕ) (stands : Result ℕ ReadErrorView)
    (further : TypeIndex) → follows types pointer stands ≡ Next further
    → (number : ℕ) × (stands ≡ Ok number) × (list_any (eqb number) (numbers types.items) ≡ true)
follows-entry types pointer (Err e) further on = cc
follows-entry types pointer (Ok number) further on =
    (number, refl, by_found (first_item (λ i. i.0) number types.items) refl on) where
      by_found : (o : Option (Item TypeIndex TypeData)) → first_item (λ i. i.0) number types.items ≡ o
          → step_after pointer types.items (and_then (said types.fault number o) (λ content. Ok (number, content)))
          ≡ Next further → list_any (eqb number) (numbers types.items) ≡ true
      by_found None is none = cc
      by_found (Some item) is on = first_item-among number types.items item is

-- an index of 32 bits goes on as what it stands for does; others don't go on
abbrev follows_within : LinkInputs → Read (Item TypeIndex TypeData) → ℕ → ℕ → ℕ → Bool → Step
follows_within link types pointer module_index index within =
    step_after pointer types.items
    (cond within (and_then (resolved link module_index index)
    (λ number. and_then (entry (λ i. i.0) types number) (λ content. Ok (number, content)))) (Err (Missing index)))

-- an index that goes on goes on as what it stands for does
step-follows : (link : LinkInputs) (types : Read (Item TypeIndex TypeData)) (pointer module_index index : ℕ)
    (further : TypeIndex) → step link types pointer module_index index ≡ Next further
    → step link types pointer module_index index ≡ follows types pointer (resolved link module_index index)
step-follows link types pointer module_index index further on = grind (arith, nat_tests, on)

-- only an index of 32 bits goes on
pub step-below : (link : LinkInputs) (types : Read (Item TypeIndex TypeData)) (pointer module_index index : ℕ)
    (further : TypeIndex) → step link types pointer module_index index ≡ Next further → index < 2 ^ 32
step-below link types pointer module_index index further on = grind (arith, nat_tests, on)

-- the number that an index stands for, where it stands for one
abbrev number_of : LinkInputs → ℕ → ℕ → ℕ
number_of link module_index index = result_unwrap_or (resolved link module_index index) 0

-- the numbers of the indices that go on are those of entries
numbers_among : (link : LinkInputs) (types : Read (Item TypeIndex TypeData)) (pointer module_index : ℕ)
    → KeysAmong (step link types pointer module_index) (number_of link module_index) (numbers types.items)
numbers_among link types pointer module_index index further on =
    let entry = follows-entry types pointer (resolved link module_index index) further
    (sym (step-follows link types pointer module_index index further on) ∙ on) in rw entry.1 entry.2

-- of the indices that go on, those that stand for the same number are followed by the same
numbers_determine : (link : LinkInputs) (types : Read (Item TypeIndex TypeData)) (pointer module_index : ℕ)
    → KeysDetermine (step link types pointer module_index) (number_of link module_index)
numbers_determine link types pointer module_index i j further other on onward same =
    let on_entry = step-follows link types pointer module_index i further on in
    let next_entry = step-follows link types pointer module_index j other onward in
    let entry = follows-entry types pointer (resolved link module_index i) further (sym on_entry ∙ on) in
    let next = follows-entry types pointer (resolved link module_index j) other (sym next_entry ∙ onward) in
    let equal : entry.0 ≡ next.0 = rw (entry.1, next.1) at same in
    rw (on_entry, next_entry, entry.1, next.1, equal) refl

-- a chain that ends has no more steps than there are entries
pub steps_within : (link : LinkInputs) (types : Read (Item TypeIndex TypeData)) (pointer module_index index steps : ℕ)
    (size : TypeSize) → EndsWith (step link types pointer module_index) steps index size → steps ≤ length types.items
steps_within link types pointer module_index index steps size ends =
    let next = step link types pointer module_index in
    rw length-map at (steps-le_keys next (number_of link module_index) (numbers types.items)
    (numbers_determine link types pointer module_index)
    (numbers_among link types pointer module_index) steps index size ends)

-- however many steps a chain has, where it ends, the size at its end is the type's
pub type_size-at_end : (link : LinkInputs) (types : Read (Item TypeIndex TypeData))
    (pointer module_index index steps : ℕ) (size : TypeSize)
    → EndsWith (step link types pointer module_index) steps index size
    → type_size link types pointer module_index index ≡ size
unfolding type_size
type_size-at_end link types pointer module_index index steps size ends =
    size_along-within (step link types pointer module_index) (length types.items) steps index size
    (steps_within link types pointer module_index index steps size ends) ends

-- where a chain never ends, the type has no size
pub type_size-never : (link : LinkInputs) (types : Read (Item TypeIndex TypeData)) (pointer module_index index : ℕ)
    → NeverEnds (step link types pointer module_index) index → type_size link types pointer module_index index ≡ no_size
unfolding type_size
type_size-never link types pointer module_index index never =
    size_along-never (step link types pointer module_index) (length types.items) index never

-- a chain ends, or not within so many steps
abbrev pub EndsOrNot : (ℕ → Step) → ℕ → ℕ → Type 0
EndsOrNot next steps index = ((k : ℕ) × (size : TypeSize) × EndsWith next k index size) ⊎ ((k : ℕ) (size : TypeSize)
    → EndsWith next k index size → steps < k)

-- a chain that goes on ends or not as the one after it
ends_or_not-onward : (next : ℕ → Step) (steps index : ℕ) (further : TypeIndex) → next index ≡ Next further
    → EndsOrNot next steps further.0 → EndsOrNot next (suc steps) index
ends_or_not-onward next steps index further is (inl (k, size, ends)) = inl (suc k, size, (further, is, ends))
ends_or_not-onward next steps index further is (inr after) = inr longer where
  longer : (k : ℕ) (size : TypeSize) → EndsWith next k index size → suc steps < k
  longer zero size ends = let e : Ended size ≡ Next further = sym ends ∙ is in cc
  longer (suc k) size ends =
      let e : Next ends.0 ≡ Next further = sym ends.1 ∙ is in
      let same : ends.0 ≡ further = cc in
      let less : steps < k = after k size (subst (λ (f : TypeIndex). EndsWith next k f.0 size) same ends.2) in
      omega arith

-- whether a chain ends within so many steps can be answered
pub ends_or_not : (next : ℕ → Step) (steps index : ℕ) → EndsOrNot next steps index
ends_or_not next zero index = by_step (next index) refl where
  longer : (further : TypeIndex) → next index ≡ Next further → (k : ℕ) (size : TypeSize) → EndsWith next k index size
      → zero < k
  longer further is zero size ends = let e : Ended size ≡ Next further = sym ends ∙ is in cc
  longer further is (suc k) size ends = omega arith

  by_step : (s : Step) → next index ≡ s → EndsOrNot next zero index
  by_step (Ended size) is = inl (zero, size, is)
  by_step (Next further) is = inr (longer further is)
ends_or_not next (suc steps) index = by_step (next index) refl (λ i. ends_or_not next steps i) where
  by_step : (s : Step) → next index ≡ s → ((i : ℕ) → EndsOrNot next steps i) → EndsOrNot next (suc steps) index
  by_step (Ended size) is after = inl (zero, size, is)
  by_step (Next further) is after = ends_or_not-onward next steps index further is (after further.0)
