-- The ids of inlined bodies are those of sites among the symbols.
use Rattle.std.proofs.Common.{◌≡◌, ◌+◌, ℕ, zero, suc, Bool, true, false, cond, nat_lt, nat_le, List, [], ◌∷◌, ◌++◌, map}
use Rattle.std.proofs.Common.{drop}
use Rattle.std.specs.Prelude.{Option, Some, None, IfSome, option_map}
use Rattle.std.specs.List.{AllByRecursion, flat_map}
use Rattle.pdb_records.specs.declared.error.StreamError.{StreamError}
use Rattle.pdb_records.specs.declared.ids.IdIndex.{IdIndex}
use Rattle.pdb_records.specs.declared.modules.ModuleInfo.{ModuleInfo}
use Rattle.pdb_records.specs.declared.symbols.InlineSiteSymbol.{InlineSiteSymbol}
use Rattle.pdb_records.specs.declared.symbols.Symbol.{Symbol}
use Rattle.pdb_tables.specs.InOrder.{in_order}
use Rattle.pdb_tables.specs.Pick.{pick, later_start}
use Rattle.pdb_tables.proofs.SortLemmas.{all_put}
use Rattle.pdb_inline.specs.declared.inline_ranges.InlineRange.{InlineRange}
use Rattle.pdb_inline.specs.InlineRanges.{own_range, own_ranges, added_range, added_ranges, first_file, missing}
use Rattle.pdb_inline.specs.InlineRanges.{inline_ranges, read_ranges, range_before}
use Rattle.pdb_inline.specs.SiteRows.{counted_rows}
use Rattle.pdb_inline.specs.InlineStacks.{lies_over, stack_from, inline_stack, depths, with_outer}
use Rattle.pdb_inline.specs.Sites.{Site, OpenSite, Walk, walk, walk_from, innermost_end, after_close, found_first}
use Rattle.pdb_inline.specs.Sites.{opened_at, site_of, nested_end, through_after, open_after, depth}
use Rattle.pdb_part_laws.specs.Asked.{AreIdsIn, alone}
use Rattle.pdb_known.specs.SameModules.{IsSiteIdIn, AreSiteIdsIn}

-- what holds of two lists holds of both together
all_append : {A : Type 0} (P : A → Type 0) (xs ys : List A) → AllByRecursion P xs → AllByRecursion P ys
    → AllByRecursion P (xs ++ ys)
all_append P [] ys all others = others
all_append P (x ∷ xs) ys all others = (all.0, all_append P xs ys all.1 others)

-- what holds of each image holds of all
all_images : {A B : Type 0} (P : B → Type 0) (f : A → B) → ((a : A) → P (f a)) → (xs : List A)
    → AllByRecursion P (map f xs)
all_images P f each [] = tt
all_images P f each (x ∷ xs) = (each x, all_images P f each xs)

-- what holds of each list that is made of an element holds of all together
all_flat_map : {A B : Type 0} (Q : A → Type 0) (P : B → Type 0) (f : A → List B)
    → ((a : A) → Q a → AllByRecursion P (f a)) → (xs : List A) → AllByRecursion Q xs → AllByRecursion P (flat_map f xs)
all_flat_map Q P f each [] all = tt
all_flat_map Q P f each (x ∷ xs) all =
    all_append P (f x) (flat_map f xs) (each x all.0) (all_flat_map Q P f each xs all.1)

-- what holds of all holds of those after a position
all_drop : {A : Type 0} (P : A → Type 0) (n : ℕ) (xs : List A) → AllByRecursion P xs → AllByRecursion P (drop n xs)
all_drop P zero xs all = all
all_drop P (suc n) [] all = tt
all_drop P (suc n) (x ∷ xs) all = all_drop P n xs all.1

-- what holds of all holds of them in order
all_ordered : {A : Type 0} (P : A → Type 0) (before : A → A → Bool) (xs : List A) → AllByRecursion P xs
    → AllByRecursion P (in_order before xs)
all_ordered P before [] all = tt
all_ordered P before (x ∷ xs) all = all_put before P x (in_order before xs) all.0 (all_ordered P before xs all.1)

-- what holds of all holds of the one that is picked
pub all_picked : {T : Type 0} (P : T → Type 0) (over : T → Bool) (start : T → ℕ) (xs : List T) → AllByRecursion P xs
    → IfSome (pick over start xs) P
all_picked P over start [] all = tt
all_picked {T = T} P over start (x ∷ xs) all =
    by_test (over x) (pick over start xs) (all_picked P over start xs all.1) where
      by_start : (y : T) → P y → (t : Bool) → IfSome (cond t (Some y) (Some x)) P
      by_start y holds true = holds
      by_start y holds false = all.0

      by_test : (t : Bool) (picked : Option T) → IfSome picked P
          → IfSome (later_start start (cond t (Some x) None) picked) P
      by_test true None holds = all.0
      by_test true (Some y) holds = by_start y holds (nat_lt (start x) (start y))
      by_test false None holds = tt
      by_test false (Some y) holds = holds

-- what holds of all ranges holds of those in a stack
stack_all : (P : InlineRange → Type 0) (ranges : List InlineRange) → AllByRecursion P ranges → (count x d : ℕ)
    → AllByRecursion P (stack_from count ranges x d)
stack_all P ranges all zero x d = tt
stack_all P ranges all (suc count) x d =
    by_picked (pick (lies_over d x) (λ range. range.start_offset) ranges)
    (all_picked P (lies_over d x) (λ range. range.start_offset) ranges all)
    (stack_all P ranges all count x (d + 1)) where
      by_picked : (picked : Option InlineRange) → IfSome picked P
          → AllByRecursion P (stack_from count ranges x (d + 1))
          → AllByRecursion P (with_outer picked (stack_from count ranges x (d + 1)))
      by_picked None holds inner = tt
      by_picked (Some range) holds inner = (holds, inner)

-- the id of a range, or of a site, is in a set
abbrev IsRangeIn : (ℕ → Bool) → InlineRange → Type 0
IsRangeIn is_in range = is_in range.inlinee.0 ≡ true

abbrev IsSiteIn : (ℕ → Bool) → Site → Type 0
IsSiteIn is_in site = is_in site.symbol.inlinee.0 ≡ true

-- the ranges of sites
ranges_in : (is_in : ℕ → Bool) (inlinees : List IdIndex) (sites : List Site) → AllByRecursion (IsSiteIn is_in) sites
    → AllByRecursion (IsRangeIn is_in) (inline_ranges inlinees sites)
ranges_in is_in inlinees sites all =
    let own = λ (site : Site). own_ranges inlinees (depth site) site.symbol in
    let added = λ (site : Site). added_ranges inlinees (depth site) site.symbol (missing inlinees sites site) in
    all_ordered (IsRangeIn is_in) range_before (read_ranges inlinees sites)
    (all_append (IsRangeIn is_in) (flat_map own sites) (flat_map added sites)
    (all_flat_map (IsSiteIn is_in) (IsRangeIn is_in) own
    (λ site here. all_images (IsRangeIn is_in) (own_range (depth site) site.symbol) (λ row. here)
    (counted_rows inlinees site.symbol)) sites all)
    (all_flat_map (IsSiteIn is_in) (IsRangeIn is_in) added
    (λ site here. all_images (IsRangeIn is_in)
    (added_range (depth site) site.symbol (first_file inlinees site.symbol)) (λ run. here)
    (missing inlinees sites site)) sites all))

-- the sites that a walk finds
sites_in : (is_in : ℕ → Bool) (fault : Option StreamError) (end : ℕ) (symbols : List Symbol)
    → AllByRecursion (IsSiteIdIn is_in) symbols → (at through : ℕ) (outer : List OpenSite)
    → AllByRecursion (IsSiteIn is_in) (walk_from fault end symbols at through outer).sites
sites_in is_in fault end [] all at through outer = tt
sites_in is_in fault end (symbol ∷ symbols) all at through outer =
    by_passed (nat_le at through) (sites_in is_in fault end symbols all.1) where
      Onward : Type 0
      Onward = (at_next passed : ℕ) (open_sites : List OpenSite)
          → AllByRecursion (IsSiteIn is_in) (walk_from fault end symbols at_next passed open_sites).sites

      closed : (open_sites : List OpenSite) (rest : Walk) → AllByRecursion (IsSiteIn is_in) rest.sites
          → AllByRecursion (IsSiteIn is_in) (after_close open_sites rest).sites
      closed [] rest holds = tt
      closed (site ∷ others) rest holds = holds

      opened : (found : Option InlineSiteSymbol) (rest : Walk)
          → AreIdsIn is_in (alone (option_map (λ (site : InlineSiteSymbol). site.inlinee) found))
          → AllByRecursion (IsSiteIn is_in) rest.sites
          → AllByRecursion (IsSiteIn is_in) (found_first (option_map (opened_at at outer) found) rest).sites
      opened None rest here holds = holds
      opened (Some site) rest here holds = (here.0, holds)

      by_closed : Onward → (t : Bool) → AllByRecursion (IsSiteIn is_in) (cond t
          (after_close outer (walk_from fault end symbols (at + 1) through (drop 1 outer)))
          (found_first (option_map (opened_at at outer) (site_of symbol))
          (walk_from fault end symbols (at + 1) (through_after at (nested_end symbol) through)
          (open_after at (site_of symbol) outer)))).sites
      by_closed onward true = closed outer (walk_from fault end symbols (at + 1) through (drop 1 outer))
          (onward (at + 1) through (drop 1 outer))
      by_closed onward false = opened (site_of symbol)
          (walk_from fault end symbols (at + 1) (through_after at (nested_end symbol) through)
          (open_after at (site_of symbol) outer)) all.0
          (onward (at + 1) (through_after at (nested_end symbol) through)
          (open_after at (site_of symbol) outer))

      by_passed : (t : Bool) → Onward → AllByRecursion (IsSiteIn is_in) (cond t
          (walk_from fault end symbols (at + 1) through outer)
          (cond (nat_le (innermost_end end outer) at)
          (after_close outer (walk_from fault end symbols (at + 1) through (drop 1 outer)))
          (found_first (option_map (opened_at at outer) (site_of symbol))
          (walk_from fault end symbols (at + 1) (through_after at (nested_end symbol) through)
          (open_after at (site_of symbol) outer))))).sites
      by_passed true onward = onward (at + 1) through outer
      by_passed false onward = by_closed onward (nat_le (innermost_end end outer) at)

-- the ids of the inlined bodies over an offset of a procedure
pub bodies_in : (is_in : ℕ → Bool) (inlinees : List IdIndex) (info : ModuleInfo) (position end x : ℕ)
    → AreSiteIdsIn is_in info
    → AllByRecursion (λ (range : InlineRange). is_in range.inlinee.0 ≡ true)
    (inline_stack (inline_ranges inlinees (walk info.symbols.items info.symbols.fault position end).sites) x)
bodies_in is_in inlinees info position end x all =
    let ranges = inline_ranges inlinees (walk info.symbols.items info.symbols.fault position end).sites in
    stack_all (IsRangeIn is_in) ranges
    (ranges_in is_in inlinees (walk info.symbols.items info.symbols.fault position end).sites
    (sites_in is_in info.symbols.fault end (drop position info.symbols.items)
    (all_drop (IsSiteIdIn is_in) position info.symbols.items all) position position []))
    (depths ranges) x 0
