-- Where sites are well nested, a site is inside another where it begins in it.
use Rattle.std.proofs.Common.{◌≡◌, ◌∙◌, ℕ, zero, suc, ◌+◌, ◌<◌, ◌≤◌, true, eqb, ltb, ◌&&◌, List, [], ◌∷◌, drop}
use Rattle.std.proofs.Common.{sym, arith}
use Rattle.std.specs.List.{AllByRecursion, Contains}
use Rattle.std.specs.Prelude.{IsTrue, ◌↔◌, Option}
use Rattle.std.proofs.lemmas.Bool.{lt-ltb, or_right}
use Rattle.std.proofs.lemmas.Bool.Decides.{nat_tests}
use Rattle.pdb_records.specs.declared.error.StreamError.{StreamError}
use Rattle.pdb_records.specs.declared.symbols.Symbol.{Symbol}
use Rattle.pdb_inline.specs.Sites.{Site, OpenSite, walk, innermost_end, opened_at}
use Rattle.pdb_inline.specs.InlineRanges.{is_inside}
use Rattle.pdb_inline.specs.WellNested.{AreWellNested}
use Rattle.pdb_inline.proofs.ContainedLemmas.{contains_first, contains_later, all_at}
use Rattle.pdb_inline.proofs.NestingLemmas.{Falls, AreNested, positions, falls_later, falls_next, site_falls}
use Rattle.pdb_inline.proofs.NestingLemmas.{nested_position, Turns, by_turns, nested_turns, procedure_nested}
use Rattle.pdb_inline.proofs.InsideLemmas.{is_among, not_among_lower, left_behind}

-- of open sites, the innermost ends at a number or later, and no inner one ends later than an outer one
abbrev pub EndsFrom : ℕ → List OpenSite → Type 0
EndsFrom n [] = Unit {0}
EndsFrom n (site ∷ outer) = (n ≤ site.end) × EndsFrom site.end outer

-- of sites found later, those are inside of an open one that begin before its end
abbrev pub SpansOpen : List OpenSite → List Site → Type 0
SpansOpen [] sites = Unit {0}
SpansOpen (site ∷ outer) sites =
    AllByRecursion (λ inner. is_among site.position inner.outer ≡ ltb inner.position site.end) sites
    × SpansOpen outer sites

-- of sites found after a site, those are inside of it that begin before its end
abbrev pub Spans : List Site → Type 0
Spans [] = Unit {0}
Spans (site ∷ sites) =
    AllByRecursion (λ inner. is_among site.position inner.outer ≡ ltb inner.position site.symbol.end.0) sites
    × Spans sites

-- of sites found later, those that begin before the end of an open one end by it
abbrev pub EndInOpen : List OpenSite → List Site → Type 0
EndInOpen [] sites = Unit {0}
EndInOpen (site ∷ outer) sites =
    ((inner : Site) → Contains sites inner → inner.position < site.end → inner.symbol.end.0 ≤ site.end)
    × EndInOpen outer sites

-- what is so for sites is so for those after the first
end_in_later : (outer : List OpenSite) (site : Site) (sites : List Site) → EndInOpen outer (site ∷ sites)
    → EndInOpen outer sites
end_in_later [] site sites ends = tt
end_in_later (open_site ∷ outer) site sites ends =
    ((λ inner there. ends.0 inner (contains_later site inner sites there)), end_in_later outer site sites ends.1)

-- where what is open ends behind a position, each open site does
ends_behind : (end at n : ℕ) (outer : List OpenSite) → at < innermost_end end outer → EndsFrom n outer
    → EndsFrom (suc at) outer
ends_behind end at n [] before rise = tt
ends_behind end at n (site ∷ outer) before rise = (omega arith, rise.1)

-- a site that opens while others are open ends by the innermost one's end
new_ends_by : (end n : ℕ) (outer : List OpenSite) (site : Site) (sites : List Site)
    → site.position < innermost_end end outer → EndInOpen outer (site ∷ sites) → EndsFrom n outer
    → EndsFrom site.symbol.end.0 outer
new_ends_by end n [] site sites before ends rise = tt
new_ends_by end n (open_site ∷ outer) site sites before ends rise =
    (ends.0 site (contains_first site sites) before, rise.1)

-- a site that is opened is inside of all open ones
opened_spans : (n : ℕ) (outer : List OpenSite) (site : Site) (sites : List Site) → site.position < n → EndsFrom n outer
    → ((q : ℕ) → is_among q (positions outer) ≡ true → is_among q site.outer ≡ true) → SpansOpen outer sites
    → SpansOpen outer (site ∷ sites)
opened_spans n [] site sites behind rise among spans = tt
opened_spans n (open_site ∷ outer) site sites behind rise among spans = (
  (
    among open_site.position (grind (arith, nat_tests)) ∙ sym (lt-ltb site.position open_site.end (omega arith)),
    spans.0,
  ),
  opened_spans open_site.end outer site sites (omega arith) rise.1
      (λ q later. among q (or_right (eqb open_site.position q) (is_among q (positions outer)) later)) spans.1,
)

-- nothing is inside of open ones where there are no sites
nothing_spans : (outer : List OpenSite) → SpansOpen outer []
nothing_spans [] = tt
nothing_spans (site ∷ outer) = (tt, nothing_spans outer)

-- the sites that a walk finds are nested, and if their ends nest, they are inside of open ones, and of one another,
-- where they begin in them
abbrev pub WalkSpans : ℕ → List OpenSite → List Site → Type 0
WalkSpans at outer sites = AreNested at (positions outer) sites
    × (Falls (at ∷ positions outer) → (n : ℕ) → EndsFrom n outer → EndInOpen outer sites → AreWellNested sites
    → SpansOpen outer sites × Spans sites)

-- so it is of each walk
walk_spans : (end : ℕ) → Turns WalkSpans end
walk_spans end =
    let nested = nested_turns end in record {
      nothing = λ at outer. (tt, λ falls n rise ends well. (nothing_spans outer, tt));
      passed = λ at outer sites rest. (
        nested.passed at outer sites rest.0,
        λ falls. rest.1 (falls_later at (at + 1) (positions outer) (omega arith) falls),
      );
      closed = λ at site outer sites ended rest. (
        nested.closed at site outer sites ended rest.0,
        λ falls n rise ends well.
            let later = rest.1 (falls_later site.position (at + 1) (positions outer) (omega (arith, falls.0.0)) falls.1)
            site.end rise.1 ends.1 well in
            let left = not_among_lower site.position site.position (positions outer) (omega arith) falls.1.0 in (
              (
                left_behind site.position site.end (at + 1) (positions outer) sites (omega (arith, falls.0.0))
                    (omega arith) left rest.0,
                later.0,
              ),
              later.1,
            ),
      );
      opened = λ at outer symbol sites before rest. (
        nested.opened at outer symbol sites before rest.0,
        λ falls n rise ends well.
            let site = opened_at at outer symbol in
            let behind = λ (inner : Site) (there : Contains sites inner). contains_later site inner sites there in
            let later = rest.1 (falls_next at (positions outer) falls) 0
            (omega arith, new_ends_by end n outer site sites before ends rise) (
              (λ inner there. well site inner (contains_first site sites) (behind inner there)
                  (omega (arith, nested_position (at + 1) (at ∷ positions outer) sites inner rest.0 there))),
              end_in_later outer site sites ends,
            )
            (λ a b one other. well a b (behind a one) (behind b other)) in (
              opened_spans (suc at) outer site sites (omega arith) (ends_behind end at n outer before rise)
                  (λ q among. among) later.0.1,
              (later.0.0, later.1),
            ),
      );
    }

-- what holds of each site and those found after it holds of any two: the one is inside the other where it begins in it
spans_at : (from : ℕ) (before : List ℕ) (sites : List Site) (outer inner : Site) → Falls (from ∷ before)
    → AreNested from before sites → Spans sites → Contains sites outer → Contains sites inner
    → is_inside outer inner ≡ (ltb outer.position inner.position && ltb inner.position outer.symbol.end.0)
spans_at from before [] outer inner falls nested spans one (k, within, is) = absurd (omega arith)
spans_at from before (site ∷ sites) outer inner falls nested spans one (zero, within, is) =
    let low = nested_position site.position before (site ∷ sites) outer (omega arith, nested.1, nested.2) one in
    let below = site_falls from before site sites falls nested in
    let none = not_among_lower site.position outer.position site.outer low below.0 in grind (arith, nat_tests)
spans_at from before (site ∷ sites) outer inner falls nested spans (zero, within, is) (suc k, within', is') =
    let there : Contains sites inner = (k, omega arith, is') in
    let low = nested_position (site.position + 1) (site.position ∷ site.outer) sites inner nested.2 there in
    let inside = all_at (λ s. is_among site.position s.outer ≡ ltb s.position site.symbol.end.0) sites inner spans.0
    there in grind (arith, nat_tests)
spans_at from before (site ∷ sites) outer inner falls nested spans (suc k, within, is) (suc i, within', is') =
    let next = falls_next site.position site.outer (site_falls from before site sites falls nested) in
    spans_at (site.position + 1) (site.position ∷ site.outer) sites outer inner next nested.2 spans.1
    (k, omega arith, is) (i, omega arith, is')

-- of well nested sites one is inside another exactly where it begins in it
pub inside_iff_begins_in : (symbols : List Symbol) (fault : Option StreamError) (position end : ℕ) (outer inner : Site)
    → AreWellNested (walk symbols fault position end).sites
    → Contains (walk symbols fault position end).sites outer → Contains (walk symbols fault position end).sites inner
    → IsTrue (is_inside outer inner) ↔ ((outer.position < inner.position) × (inner.position < outer.symbol.end.0))
inside_iff_begins_in symbols fault position end outer inner well one other =
    let all = by_turns WalkSpans fault end (walk_spans end) (drop position symbols) position position [] in
    let spans = (all.1 (tt, tt) 0 tt tt well).1 in
    let is = spans_at 0 [] (walk symbols fault position end).sites outer inner (tt, tt)
    (procedure_nested symbols fault position end) spans one other in
    (λ inside. grind (arith, nat_tests), λ between. grind (arith, nat_tests))
