-- Each entry of a stack is a range of a site.
use Rattle.std.proofs.Common.{◌≡◌, ℕ, Bool, List, [], ◌∷◌, arith, inl, inr}
use Rattle.std.specs.List.{AllByRecursion, Contains, flat_map, slice_get}
use Rattle.std.specs.Prelude.{Some, IsTrue}
use Rattle.std.proofs.lemmas.List.Elements.{Contains-append_cases, Contains-append_left, Contains-append_right}
use Rattle.std.proofs.lemmas.List.Elements.{All-contains_itself, recursion_from_All}
use Rattle.pdb_tables.specs.InOrder.{in_order}
use Rattle.pdb_tables.proofs.SortLemmas.{all_put}
use Rattle.pdb_records.specs.declared.ids.IdIndex.{IdIndex}
use Rattle.pdb_inline.specs.declared.inline_ranges.InlineRange.{InlineRange}
use Rattle.pdb_inline.specs.Sites.{Site, depth}
use Rattle.pdb_inline.specs.InlineRanges.{missing, own_ranges, added_ranges, read_ranges, range_before, inline_ranges}
use Rattle.pdb_inline.specs.InlineStacks.{lies_over, inline_stack, site_ranges}
use Rattle.pdb_inline.proofs.ContainedLemmas.{contains_first, contains_later, all_at}
use Rattle.pdb_inline.proofs.DirectlyInsideLemmas.{over_from_range, stack_entry}

-- what holds of all elements holds of all in order
all_in_order : {A : Type 0} (P : A → Type 0) (before : A → A → Bool) (xs : List A) → AllByRecursion P xs
    → AllByRecursion P (in_order before xs)
all_in_order P before [] all = tt
all_in_order P before (x ∷ xs) all = all_put before P x (in_order before xs) all.0 (all_in_order P before xs all.1)

-- what is made of the elements of a list is made of one of them
contains_flat_map : {A B : Type 0} (f : A → List B) (xs : List A) (y : B) → Contains (flat_map f xs) y
    → (x : A) × Contains xs x × Contains (f x) y
contains_flat_map f [] y (k, within, is) = absurd (omega arith)
contains_flat_map f (x ∷ xs) y there =
    elim (Contains-append_cases (f x) (flat_map f xs) y there) [
      | inl here ↦ (x, contains_first x xs, here)
      | inr later ↦ let found = contains_flat_map f xs y later in
          (found.0, contains_later x found.0 xs found.1, found.2)
    ]

-- each of the ranges of sites is a range of one of them
range_of_site : (inlinees : List IdIndex) (sites : List Site) (range : InlineRange)
    → Contains (inline_ranges inlinees sites) range
    → (site : Site) × Contains sites site × Contains (site_ranges inlinees sites site) range
range_of_site inlinees sites range there =
    let own = λ (site : Site). own_ranges inlinees (depth site) site.symbol in
    let added = λ (site : Site). added_ranges inlinees (depth site) site.symbol (missing inlinees sites site) in
    let read = read_ranges inlinees sites in
    let all = all_in_order (Contains read) range_before read
    (recursion_from_All (Contains read) read (All-contains_itself read)) in
    elim (Contains-append_cases (flat_map own sites) (flat_map added sites) range
    (all_at (Contains read) (in_order range_before read) range all there)) [
      | inl here ↦ let found = contains_flat_map own sites range here in
          (found.0, found.1, Contains-append_left (own found.0) (added found.0) range found.2)
      | inr here ↦ let found = contains_flat_map added sites range here in
          (found.0, found.1, Contains-append_right (own found.0) (added found.0) range found.2)
    ]

-- each entry of a stack is a range of a site of its depth, over the number
pub entry_of_site : (inlinees : List IdIndex) (sites : List Site) (x d : ℕ) (range : InlineRange)
    → slice_get (inline_stack (inline_ranges inlinees sites) x) d ≡ Some range → (site : Site) × Contains sites site
    × Contains (site_ranges inlinees sites site) range × (depth site ≡ d) × IsTrue (lies_over d x range)
entry_of_site inlinees sites x d range there =
    let entry = stack_entry (inline_ranges inlinees sites) x d range there in
    let found = range_of_site inlinees sites range entry.1 in
    (found.0, found.1, found.2, (over_from_range inlinees sites found.0 range d x entry.0 found.2).0, entry.0)
