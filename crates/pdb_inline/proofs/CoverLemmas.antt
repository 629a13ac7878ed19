-- The ranges of a depth cover what the rows of sites at least that deep cover.
use Rattle.std.proofs.Common.{◌≡◌, ◌∙◌, ℕ, ◌+◌, ◌≤◌, Bool, ◌||◌, ◌&&◌, List, [], ◌∷◌, ◌++◌}
use Rattle.std.proofs.Common.{length, map, refl, ap, arith, length-drop}
use Rattle.std.specs.List.{list_any, flat_map}
use Rattle.std.specs.Prelude.{Option, ◌==◌, nat_le, nat_lt}
use Rattle.std.proofs.lemmas.Bool.Decides.{nat_tests}
use Rattle.std.proofs.lemmas.List.Folds.{list_any-append}
use Rattle.pdb_tables.specs.RangeSet.{has}
use Rattle.pdb_tables.proofs.HasLemmas.{has-append}
use Rattle.pdb_records.specs.declared.ids.IdIndex.{IdIndex}
use Rattle.pdb_records.specs.declared.lines.FileIndex.{FileIndex}
use Rattle.pdb_records.specs.declared.symbols.InlineRow.{InlineRow}
use Rattle.pdb_records.specs.declared.symbols.InlineSiteSymbol.{InlineSiteSymbol}
use Rattle.pdb_tables.specs.InOrder.{put, in_order}
use Rattle.pdb_inline.specs.Sites.{Site, SiteAtDepth, at_depth, depth}
use Rattle.pdb_inline.specs.SiteRows.{row_range, row_ranges, counted_rows}
use Rattle.pdb_inline.specs.InlineRanges.{own_range, own_ranges, added_range, added_ranges, range_before, inline_ranges}
use Rattle.pdb_tables.specs.Runs.{missing_runs}
use Rattle.pdb_inline.specs.CoveredRuns.{deeper_ranges, added_by_depth}
use Rattle.pdb_inline.specs.InlineStacks.{lies_over, has_range_over, is_covered}
use Rattle.pdb_inline.proofs.NestingLemmas.{AreNested}
use Rattle.pdb_tables.proofs.MissingRunLemmas.{has-missing_runs}
use Rattle.pdb_inline.proofs.InlineRangeLemmas.{ranges_by_depth_are}

-- an element passes a test among others wherever it is put
list_any-put : {A : Type 0} (p : A → Bool) (before : A → A → Bool) (x : A) (ys : List A)
    → list_any p (put before x ys) ≡ (p x || list_any p ys)
list_any-put p before x [] = refl
list_any-put p before x (y ∷ ys) = let rest = list_any-put p before x ys in grind arith

-- the elements that are there are there in any order
pub list_any-in_order : {A : Type 0} (p : A → Bool) (before : A → A → Bool) (xs : List A)
    → list_any p (in_order before xs) ≡ list_any p xs
list_any-in_order p before [] = refl
list_any-in_order p before (x ∷ xs) =
    rw (list_any-put p before x (in_order before xs), list_any-in_order p before xs) refl

-- the ranges of rows lie over what the rows cover
pub over_own : (d x e : ℕ) (symbol : InlineSiteSymbol) (rows : List InlineRow)
    → has_range_over (map (own_range e symbol) rows) d x ≡ ((e == d) && has (map row_range rows) x)
over_own d x e symbol [] = grind arith
over_own d x e symbol (row ∷ rows) =
    rw (over_own d x e symbol rows) (grind arith)

-- the ranges that are added for runs lie over what the runs hold
pub over_added : (d x e : ℕ) (symbol : InlineSiteSymbol) (file : Option FileIndex) (runs : List (ℕ × ℕ))
    → has_range_over (map (added_range e symbol file) runs) d x ≡ ((e == d) && has runs x)
over_added d x e symbol file [] = grind arith
over_added d x e symbol file (run ∷ runs) =
    rw (over_added d x e symbol file runs) (grind arith)

-- a range of a depth lies over a number among the ranges that are read from sites
abbrev pub is_ranged : List IdIndex → List SiteAtDepth → ℕ → ℕ → Bool
is_ranged inlinees sites d x =
    has_range_over (flat_map (λ site. own_ranges inlinees site.depth site.symbol) sites) d x || has_range_over
    (added_by_depth inlinees sites) d x

-- the ranges of one more site lie over its rows, and over the rows of the deeper ones that follow at once
is_ranged-cons : (inlinees : List IdIndex) (site : SiteAtDepth) (sites : List SiteAtDepth) (d x : ℕ)
    → is_ranged inlinees (site ∷ sites) d x
    ≡ (((site.depth == d) && (has (row_ranges inlinees site.symbol) x || has
    (deeper_ranges inlinees site.depth sites) x)) || is_ranged inlinees sites d x)
is_ranged-cons inlinees site sites d x =
    let runs = missing_runs (deeper_ranges inlinees site.depth sites) (row_ranges inlinees site.symbol) in
    rw (
      list_any-append (lies_over d x) (own_ranges inlinees site.depth site.symbol)
          (flat_map (λ s. own_ranges inlinees s.depth s.symbol) sites),
      list_any-append (lies_over d x) (added_ranges inlinees site.depth site.symbol runs)
          (added_by_depth inlinees sites),
      over_own d x site.depth site.symbol (counted_rows inlinees site.symbol),
      over_added d x site.depth site.symbol _ runs,
      has-missing_runs (deeper_ranges inlinees site.depth sites) (row_ranges inlinees site.symbol) x,
    )
    (grind arith)

-- with one more site, the deeper sites that follow at once and the ranges of a depth lie over what is covered at it, as
-- they do without it; if it may be no deeper, the ranges alone do
one_more : (own deeper here ranged covered : Bool) (depth n d : ℕ) → depth ≤ n → (depth ≡ d → here ≡ deeper)
    → (deeper || ranged) ≡ covered → (depth + 1 ≤ d → ranged ≡ covered)
    → (((nat_lt d depth && (own || deeper)) || (((depth == d) && (own || here)) || ranged))
    ≡ ((nat_le d depth && own) || covered))
    × (n ≤ d → (((depth == d) && (own || here)) || ranged) ≡ ((nat_le d depth && own) || covered))
one_more own deeper here ranged covered depth n d low same both alone =
    (grind (arith, nat_tests), λ up. grind (arith, nat_tests))

-- the deeper ones of sites cover what the first one does and the deeper ones that follow it, if that is deeper
has_deeper : (inlinees : List IdIndex) (site : SiteAtDepth) (sites : List SiteAtDepth) (d x : ℕ)
    → has (deeper_ranges inlinees d (site ∷ sites)) x
    ≡ (nat_lt d site.depth && (has (row_ranges inlinees site.symbol) x || has (deeper_ranges inlinees d sites) x))
has_deeper inlinees site sites d x = grind (arith, has-append)

-- the deeper sites that follow at once and the ranges of a depth lie over what is covered at it; with no site above it
-- ahead, the ranges alone do
cover_both : (inlinees : List IdIndex) (from : ℕ) (outer : List ℕ) (sites : List Site) (d x : ℕ)
    → AreNested from outer sites
    → ((has (deeper_ranges inlinees d (map at_depth sites)) x || is_ranged inlinees (map at_depth sites) d x)
    ≡ is_covered inlinees sites d x)
    × (length outer ≤ d → is_ranged inlinees (map at_depth sites) d x ≡ is_covered inlinees sites d x)
cover_both inlinees from outer [] d x nested = (refl, λ _. refl)
cover_both inlinees from outer (site ∷ sites) d x nested =
    let rest = cover_both inlinees (site.position + 1) (site.position ∷ site.outer) sites d x nested.2 in
    let later = map at_depth sites in
    rw (has_deeper inlinees (at_depth site) later d x, is_ranged-cons inlinees (at_depth site) later d x)
    (one_more (has (row_ranges inlinees site.symbol) x) (has (deeper_ranges inlinees d later) x)
    (has (deeper_ranges inlinees (depth site) later) x) (is_ranged inlinees later d x) (is_covered inlinees sites d x)
    (depth site) (length outer) d (omega (arith, length-drop nested.1.0 outer, ap length nested.1.1))
    (λ same. rw same refl) rest.0 (λ low. rest.1 (omega (arith, low))))

-- the ranges of a depth of nested sites lie over what is covered at it
pub has_range_over_nested : (inlinees : List IdIndex) (sites : List Site) (d x : ℕ) → AreNested 0 [] sites
    → has_range_over (inline_ranges inlinees sites) d x ≡ is_covered inlinees sites d x
has_range_over_nested inlinees sites d x nested =
    let both = cover_both inlinees 0 [] sites d x nested in
    rw (← ranges_by_depth_are inlinees sites nested)
    (list_any-in_order (lies_over d x) range_before
    (flat_map (λ site. own_ranges inlinees site.depth site.symbol) (map at_depth sites) ++ added_by_depth inlinees
    (map at_depth sites))
    ∙ list_any-append (lies_over d x)
    (flat_map (λ site. own_ranges inlinees site.depth site.symbol) (map at_depth sites))
    (added_by_depth inlinees (map at_depth sites))
    ∙ both.1 (omega arith))
