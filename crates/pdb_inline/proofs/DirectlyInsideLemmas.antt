-- Where one site alone of each depth has ranges over a number, the sites of its stack lie directly inside one another.
use Rattle.std.proofs.Common.{◌≡◌, ◌∙◌, ℕ, zero, suc, ◌+◌, Bool, true, eqb, ◌||◌, ◌&&◌, List, [], ◌∷◌, length}
use Rattle.std.proofs.Common.{drop, refl, sym, ap, subst, arith, inl, inr, add-zero, zero-add}
use Rattle.std.specs.List.{Contains, list_any, slice_get}
use Rattle.std.specs.Prelude.{◌==◌, Some, ◌⊎◌}
use Rattle.std.proofs.lemmas.Bool.{or_cases, or_right, eq-eqb, eqb-true, and_parts, and_from, true_from_ne_false}
use Rattle.std.proofs.lemmas.Bool.Decides.{nat_tests}
use Rattle.std.proofs.lemmas.List.{drop-drop, length-drop}
use Rattle.std.proofs.lemmas.List.Folds.{list_any-append}
use Rattle.pdb_tables.specs.Pick.{pick}
use Rattle.pdb_tables.specs.RangeSet.{has}
use Rattle.pdb_tables.proofs.HasLemmas.{has-append}
use Rattle.pdb_tables.proofs.MissingRunLemmas.{has-missing_runs}
use Rattle.pdb_records.specs.declared.ids.IdIndex.{IdIndex}
use Rattle.pdb_inline.specs.declared.inline_ranges.InlineRange.{InlineRange}
use Rattle.pdb_inline.specs.Sites.{Site, depth}
use Rattle.pdb_inline.specs.SiteRows.{row_ranges, counted_rows}
use Rattle.pdb_inline.specs.InlineRanges.{is_inside, inner_ranges, missing, own_ranges, added_ranges, inline_ranges}
use Rattle.pdb_inline.specs.InlineStacks.{lies_over, has_range_over, depths, stack_from, inline_stack}
use Rattle.pdb_inline.specs.InlineStacks.{site_ranges, is_over, IsSoleOver, IsDirectlyInside}
use Rattle.pdb_inline.proofs.ContainedLemmas.{contains_first, contains_later, any_contains, contains_any, picked}
use Rattle.pdb_inline.proofs.NestingLemmas.{AreNested, nested_position}
use Rattle.pdb_inline.proofs.InsideLemmas.{is_among, not_among_drop}
use Rattle.pdb_inline.proofs.CoverLemmas.{over_own, over_added}

-- the site at a position, inside of these others
abbrev pub SiteAt : List Site → ℕ → List ℕ → Type 0
SiteAt sites p rest = (site : Site) × Contains sites site × (site.position ≡ p) × (site.outer ≡ rest)

-- what a site is inside of is a site with the outer ones that stand behind it, or was open before these sites
outer_is_site : (from : ℕ) (outer : List ℕ) (sites : List Site) (inner : Site) (k p : ℕ) (rest : List ℕ)
    → AreNested from outer sites
    → Contains sites inner → drop k inner.outer ≡ p ∷ rest → SiteAt sites p rest ⊎ ((n : ℕ) × (drop n outer ≡ p ∷ rest))
outer_is_site from outer [] inner k p rest nested (i, within, is) stands = absurd (omega arith)
outer_is_site from outer (site ∷ sites) inner k p rest nested (zero, within, is) stands =
    inr (nested.1.0 + k, rw (← drop-drop k nested.1.0 outer, ← nested.1.1, is) stands)
outer_is_site from outer (site ∷ sites) inner k p rest nested (suc i, within, is) stands =
    elim (outer_is_site (site.position + 1) (site.position ∷ site.outer) sites inner k p rest nested.2
    (i, omega arith, is) stands) [
      | inl found ↦ inl (found.0, contains_later site found.0 sites found.1, found.2, found.3)
      | inr before ↦ by_index before.0 before.1
    ]
  where
    by_index : (n : ℕ) → drop n (site.position ∷ site.outer) ≡ p ∷ rest
        → SiteAt (site ∷ sites) p rest ⊎ ((m : ℕ) × (drop m outer ≡ p ∷ rest))
    by_index zero is = inl (site, contains_first site sites, cc, cc)
    by_index (suc n) is = inr (nested.1.0 + n, rw (← drop-drop n nested.1.0 outer, ← nested.1.1) is)

-- each position that a site of a walk is inside of is that of a site with the outer ones that stand behind it
site_at_outer : (sites : List Site) (inner : Site) (k p : ℕ) (rest : List ℕ) → AreNested 0 [] sites
    → Contains sites inner → drop k inner.outer ≡ p ∷ rest → SiteAt sites p rest
site_at_outer sites inner k p rest nested there stands =
    elim (outer_is_site 0 [] sites inner k p rest nested there stands) [
      | inl found ↦ found
      | inr none ↦ absurd (omega (arith, length-drop {A = ℕ}, ap length none.1))
    ]

-- no two sites have one position
same_site : (from : ℕ) (outer : List ℕ) (sites : List Site) (a b : Site) → AreNested from outer sites → Contains sites a
    → Contains sites b → a.position ≡ b.position → a ≡ b
same_site from outer [] a b nested (i, within, is) other same = absurd (omega arith)
same_site from outer (site ∷ sites) a b nested (zero, within, is) (zero, within', is') same = sym is ∙ is'
same_site from outer (site ∷ sites) a b nested (zero, within, is) (suc k, within', is') same =
    let above = nested_position (site.position + 1) (site.position ∷ site.outer) sites b nested.2
    (k, omega arith, is') in absurd (omega (arith, above, ap (λ (s : Site). s.position) is))
same_site from outer (site ∷ sites) a b nested (suc k, within, is) (zero, within', is') same =
    let above = nested_position (site.position + 1) (site.position ∷ site.outer) sites a nested.2
    (k, omega arith, is) in absurd (omega (arith, above, ap (λ (s : Site). s.position) is'))
same_site from outer (site ∷ sites) a b nested (suc k, within, is) (suc i, within', is') same =
    same_site (site.position + 1) (site.position ∷ site.outer) sites a b nested.2 (k, omega arith, is)
    (i, omega arith, is') same

-- a position that is among others stands at a place of them
index_among : (q : ℕ) (ps : List ℕ) → is_among q ps ≡ true → (k : ℕ) × (rest : List ℕ) × (drop k ps ≡ q ∷ rest)
index_among q [] among = absurd cc
index_among q (p ∷ ps) among =
    elim (or_cases (eqb p q) (is_among q ps) among) [
      | inl here ↦ (zero, ps, ap (λ (n : ℕ). n ∷ ps) (eqb-true p q here))
      | inr later ↦ let found = index_among q ps later in (suc found.0, found.1, found.2)
    ]

-- a position at a place of some is among them, and so is each that is among those behind it
among_from_index : (q k p : ℕ) (rest ps : List ℕ) → drop k ps ≡ p ∷ rest → is_among q (p ∷ rest) ≡ true
    → is_among q ps ≡ true
among_from_index q k p rest ps stands among =
    true_from_ne_false (is_among q ps) (λ none. let no = rw stands at (not_among_drop q k ps none) in cc)

-- a site inside one that is inside another is inside that
inside_inside : (sites : List Site) (outer middle inner : Site) → AreNested 0 [] sites → Contains sites middle
    → Contains sites inner
    → is_inside outer middle ≡ true → is_inside middle inner ≡ true → is_inside outer inner ≡ true
inside_inside sites outer middle inner nested one other first second =
    let index = index_among middle.position inner.outer second in
    let found = site_at_outer sites inner index.0 middle.position index.1 nested other index.2 in
    let same : found.0 ≡ middle = same_site 0 [] sites found.0 middle nested found.1 one found.2 in
    let behind : middle.outer ≡ index.1 = ap (λ (s : Site). s.outer) (sym same) ∙ found.3 in
    among_from_index outer.position index.0 middle.position index.1 inner.outer index.2
    (or_right (eqb middle.position outer.position) (is_among outer.position index.1) (rw behind at first))

-- a site has a range of a depth over what its rows cover, and over what the rows of sites inside it cover
site_over : (inlinees : List IdIndex) (sites : List Site) (site : Site) (d x : ℕ)
    → has_range_over (site_ranges inlinees sites site) d x ≡
    ((depth site == d) && (has (row_ranges inlinees site.symbol) x || has (inner_ranges inlinees sites site) x))
site_over inlinees sites site d x =
    rw (
      list_any-append (lies_over d x) (own_ranges inlinees (depth site) site.symbol)
          (added_ranges inlinees (depth site) site.symbol (missing inlinees sites site)),
      over_own d x (depth site) site.symbol (counted_rows inlinees site.symbol),
      over_added d x (depth site) site.symbol _ (missing inlinees sites site),
      has-missing_runs (inner_ranges inlinees sites site) (row_ranges inlinees site.symbol) x,
    )
    (grind arith)

-- at its own depth it has one there
is_over_is : (inlinees : List IdIndex) (sites : List Site) (x : ℕ) (site : Site) → is_over inlinees sites x site
    ≡ (has (row_ranges inlinees site.symbol) x || has (inner_ranges inlinees sites site) x)
is_over_is inlinees sites x site =
    site_over inlinees sites site (depth site) x ∙ rw (eq-eqb (depth site) (depth site) refl) refl

-- a site is inside another, and a number is in its rows
abbrev pub is_in_row_inside : List IdIndex → Site → ℕ → Site → Bool
is_in_row_inside inlinees outer x inner = is_inside outer inner && has (row_ranges inlinees inner.symbol) x

-- what is covered inside a site is in a row of a site inside it
inner_any : (inlinees : List IdIndex) (sites : List Site) (outer : Site) (x : ℕ)
    → has (inner_ranges inlinees sites outer) x ≡ list_any (is_in_row_inside inlinees outer x) sites
inner_any inlinees [] outer x = refl
inner_any inlinees (site ∷ sites) outer x =
    let rest = inner_any inlinees sites outer x in grind (arith, has-append)

-- where a site has a range, so has each that it is inside of
over_outer : (inlinees : List IdIndex) (sites : List Site) (outer inner : Site) (x : ℕ) → AreNested 0 [] sites
    → Contains sites inner
    → is_inside outer inner ≡ true → is_over inlinees sites x inner ≡ true → is_over inlinees sites x outer ≡ true
over_outer inlinees sites outer inner x nested there inside over =
    let rows = λ (s : Site). has (row_ranges inlinees s.symbol) x in
    let within : (s : Site) × Contains sites s × (is_in_row_inside inlinees outer x s ≡ true) =
    elim (or_cases (rows inner) (has (inner_ranges inlinees sites inner) x)
    (sym (is_over_is inlinees sites x inner) ∙ over)) [
      | inl own ↦ (inner, there, and_from (is_inside outer inner) (rows inner) inside own)
      | inr deeper ↦
          let found = contains_any (is_in_row_inside inlinees inner x) sites
          (sym (inner_any inlinees sites inner x) ∙ deeper) in
          let both = and_parts (is_inside inner found.0) (rows found.0) found.2 in
          let also = inside_inside sites outer inner found.0 nested there found.1 inside both.0 in
          (found.0, found.1, and_from (is_inside outer found.0) (rows found.0) also both.1)
    ]
    in is_over_is inlinees sites x outer ∙ or_right (rows outer) (has (inner_ranges inlinees sites outer) x)
    (inner_any inlinees sites outer x
    ∙ any_contains (is_in_row_inside inlinees outer x) sites within.0 within.2 within.1)

-- a range of a site that lies over a number is of the site's depth, and the site has a range there
pub over_from_range : (inlinees : List IdIndex) (sites : List Site) (site : Site) (range : InlineRange) (d x : ℕ)
    → lies_over d x range ≡ true
    → Contains (site_ranges inlinees sites site) range → (depth site ≡ d) × (is_over inlinees sites x site ≡ true)
over_from_range inlinees sites site range d x lies there =
    let some = any_contains (lies_over d x) (site_ranges inlinees sites site) range lies there in
    let is = site_over inlinees sites site d x in
    let same : depth site ≡ d = grind (arith, nat_tests) in
    (same, subst (λ (e : ℕ). has_range_over (site_ranges inlinees sites site) e x ≡ true) (sym same) some)

-- an entry of a stack is what is picked at its depth
picked_in_stack : (ranges : List InlineRange) (x count d i : ℕ) (range : InlineRange)
    → slice_get (stack_from count ranges x d) i ≡ Some range
    → pick (lies_over (d + i) x) (λ r. r.start_offset) ranges ≡ Some range
picked_in_stack ranges x zero d zero range there = absurd cc
picked_in_stack ranges x zero d (suc i) range there = absurd cc
picked_in_stack ranges x (suc count) d zero range there = rw (add-zero d) (grind arith)
picked_in_stack ranges x (suc count) d (suc i) range there =
    let next : (d + 1) + i ≡ d + suc i = omega arith in
    let later = picked_in_stack ranges x count (d + 1) i range in rw (← next) (grind arith)

-- an entry of a stack lies over the number at its depth, and is one of the ranges
pub stack_entry : (ranges : List InlineRange) (x d : ℕ) (range : InlineRange)
    → slice_get (inline_stack ranges x) d ≡ Some range → (lies_over d x range ≡ true) × Contains ranges range
stack_entry ranges x d range there =
    let at = picked_in_stack ranges x (depths ranges) 0 d range there in
    picked (lies_over d x) (λ r. r.start_offset) ranges range (rw (zero-add d) at at)

-- a site that is deeper than another of which each depth has one alone lies directly inside it
directly_inside : (inlinees : List IdIndex) (sites : List Site) (x : ℕ) (outer inner : Site) → AreNested 0 [] sites
    → IsSoleOver inlinees sites x → Contains sites outer → Contains sites inner → depth inner ≡ depth outer + 1
    → is_over inlinees sites x outer ≡ true → is_over inlinees sites x inner ≡ true → IsDirectlyInside outer inner
directly_inside inlinees sites x outer inner nested sole one other deeper over under = by_outer inner.outer refl where
  by_outer : (ps : List ℕ) → inner.outer ≡ ps → IsDirectlyInside outer inner
  by_outer [] is = absurd (omega (arith, ap length is))
  by_outer (p ∷ rest) is =
      let found = site_at_outer sites inner 0 p rest nested other is in
      let inside : is_inside found.0 inner ≡ true = grind (arith, nat_tests) in
      let also = over_outer inlinees sites found.0 inner x nested other inside under in
      let level : depth found.0 ≡ depth outer = omega (arith, ap length is, ap length found.3) in
      rw (is, ← found.2, sole found.0 outer found.1 one level also over) refl

-- where one site alone of each depth has ranges over a number, the sites of its stack lie directly inside one another
pub stack_directly_inside : (inlinees : List IdIndex) (sites : List Site) (x d : ℕ) (outer inner : Site)
    (range under : InlineRange) → AreNested 0 [] sites → IsSoleOver inlinees sites x → Contains sites outer
    → Contains sites inner → slice_get (inline_stack (inline_ranges inlinees sites) x) d ≡ Some range
    → slice_get (inline_stack (inline_ranges inlinees sites) x) (d + 1) ≡ Some under
    → Contains (site_ranges inlinees sites outer) range → Contains (site_ranges inlinees sites inner) under
    → IsDirectlyInside outer inner
stack_directly_inside inlinees sites x d outer inner range under nested sole one other first second of_outer of_inner =
    let entry = stack_entry (inline_ranges inlinees sites) x d range first in
    let next = stack_entry (inline_ranges inlinees sites) x (d + 1) under second in
    let over = over_from_range inlinees sites outer range d x entry.0 of_outer in
    let over_next = over_from_range inlinees sites inner under (d + 1) x next.0 of_inner in
    directly_inside inlinees sites x outer inner nested sole one other
    (omega (arith, over.0, over_next.0)) over.1 over_next.1
