-- Lists whose elements pass two tests alike.
use Rattle.std.proofs.Common.{◌≡◌, ℕ, zero, suc, ◌+◌, Bool, true, false, cond, List, [], ◌∷◌, ◌++◌, refl, ap, ◌∙◌}
use Rattle.std.specs.Prelude.{◌&&◌, ◌==◌, nat_lt, Option, Some, None, IfSome, find}
use Rattle.std.specs.List.{AllByRecursion, flat_map}
use Rattle.pdb_tables.specs.Pick.{pick, later_start}
use Rattle.pdb_tables.specs.RangeSet.{is_within}
use Rattle.pdb_inline.specs.InlineStacks.{lies_over, with_outer, stack_from, inline_stack, depths}
use Rattle.pdb_inline.specs.declared.inline_ranges.InlineRange.{InlineRange}

-- what holds of two lists together holds of each
pub all_parts : {A : Type 0} (P : A → Type 0) (xs ys : List A) → AllByRecursion P (xs ++ ys)
    → AllByRecursion P xs × AllByRecursion P ys
all_parts P [] ys all = (tt, all)
all_parts P (x ∷ xs) ys all = ((all.0, (all_parts P xs ys all.1).0), (all_parts P xs ys all.1).1)

-- what holds of the lists that are made of elements, all together, holds of the list of each
pub all_pieces : {A B : Type 0} (P : B → Type 0) (f : A → List B) (xs : List A) → AllByRecursion P (flat_map f xs)
    → AllByRecursion (λ x. AllByRecursion P (f x)) xs
all_pieces P f [] all = tt
all_pieces P f (x ∷ xs) all =
    let parts = all_parts P (f x) (flat_map f xs) all in (parts.0, all_pieces P f xs parts.1)

-- what follows of each element
pub all_weaker : {A : Type 0} (P Q : A → Type 0) → ((a : A) → P a → Q a) → (xs : List A) → AllByRecursion P xs
    → AllByRecursion Q xs
all_weaker P Q each [] all = tt
all_weaker P Q each (x ∷ xs) all = (each x all.0, all_weaker P Q each xs all.1)

-- the first that passes is the same by either test
pub find_same : {A : Type 0} (over other : A → Bool) (xs : List A) → AllByRecursion (λ a. over a ≡ other a) xs
    → find over xs ≡ find other xs
find_same over other [] same = refl
find_same over other (x ∷ xs) same =
    ap (λ (t : Bool). cond t (Some x) (find over xs)) same.0
    ∙ ap (λ (rest : Option _). cond (other x) (Some x) rest) (find_same over other xs same.1)

-- so is the one that is picked
pub pick_same : {A : Type 0} (over other : A → Bool) (start : A → ℕ) (xs : List A)
    → AllByRecursion (λ a. over a ≡ other a) xs → pick over start xs ≡ pick other start xs
pick_same over other start [] same = refl
pick_same {A = A} over other start (x ∷ xs) same =
    ap (λ (t : Bool). later_start start (cond t (Some x) None) (pick over start xs)) same.0
    ∙ ap (λ (rest : Option A). later_start start (cond (other x) (Some x) None) rest)
    (pick_same over other start xs same.1)

-- what holds of all that pass holds of the one that is picked
pub picked_passes : {A : Type 0} (P : A → Type 0) (over : A → Bool) (start : A → ℕ) (xs : List A)
    → AllByRecursion (λ a. over a ≡ true → P a) xs → IfSome (pick over start xs) P
picked_passes P over start [] all = tt
picked_passes {A = A} P over start (x ∷ xs) all =
    by_test (over x) all.0 (pick over start xs) (picked_passes P over start xs all.1) where
      by_start : (y : A) → P x → P y → (t : Bool) → IfSome (cond t (Some y) (Some x)) P
      by_start y here holds true = holds
      by_start y here holds false = here

      by_test : (t : Bool) → (t ≡ true → P x) → (picked : Option A) → IfSome picked P
          → IfSome (later_start start (cond t (Some x) None) picked) P
      by_test true here None holds = here refl
      by_test true here (Some y) holds = by_start y (here refl) holds (nat_lt (start x) (start y))
      by_test false here None holds = tt
      by_test false here (Some y) holds = holds

-- what holds of all that pass holds of the first
pub find_passes : {A : Type 0} (P : A → Type 0) (over : A → Bool) (xs : List A)
    → AllByRecursion (λ a. over a ≡ true → P a) xs → IfSome (find over xs) P
find_passes P over [] all = tt
find_passes {A = A} P over (x ∷ xs) all =
    by_test (over x) all.0 (find over xs) (find_passes P over xs all.1) where
      by_test : (t : Bool) → (t ≡ true → P x) → (rest : Option A) → IfSome rest P → IfSome (cond t (Some x) rest) P
      by_test true here rest holds = here refl
      by_test false here rest holds = holds

-- a range lies over both of two numbers, or over neither
abbrev pub IsOverBoth : ℕ → ℕ → InlineRange → Type 0
IsOverBoth x y range = is_within range.start_offset range.end_offset x ≡ is_within range.start_offset range.end_offset y

-- the inlined bodies over two numbers are the same, where each range lies over both or neither
stack_from_same : (ranges : List InlineRange) (x y : ℕ) → AllByRecursion (IsOverBoth x y) ranges
    → (count depth : ℕ) → stack_from count ranges x depth ≡ stack_from count ranges y depth
stack_from_same ranges x y same zero depth = refl
stack_from_same ranges x y same (suc count) depth =
    ap (λ (range : Option InlineRange). with_outer range (stack_from count ranges x (depth + 1)))
    (pick_same (lies_over depth x) (lies_over depth y) (λ range. range.start_offset) ranges
    (all_weaker (IsOverBoth x y) (λ range. lies_over depth x range ≡ lies_over depth y range)
    (λ range both. ap (λ (t : Bool). (range.call_depth == depth) && t) both) ranges same))
    ∙ ap (λ (inner : List InlineRange). with_outer
    (pick (lies_over depth y) (λ range. range.start_offset) ranges) inner)
    (stack_from_same ranges x y same count (depth + 1))

-- so it is of the whole stack
pub stack_same : (ranges : List InlineRange) (x y : ℕ) → AllByRecursion (IsOverBoth x y) ranges
    → inline_stack ranges x ≡ inline_stack ranges y
stack_same ranges x y same = stack_from_same ranges x y same (depths ranges) 0
