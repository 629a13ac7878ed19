-- The sites inside a site are the deeper ones that follow it at once.
use Rattle.std.proofs.Common.{◌≡◌, ◌∙◌, ℕ, zero, suc, ◌+◌, ◌-◌, ◌<◌, ◌≤◌, Bool, true, false, eqb, ltb, List, [], ◌∷◌}
use Rattle.std.proofs.Common.{length, map, drop, refl, sym, ap, arith, inl, inr, length-drop}
use Rattle.std.specs.List.{AllByRecursion, list_any, flat_map, filter}
use Rattle.std.specs.Prelude.{◌==◌}
use Rattle.std.proofs.lemmas.List.{drop-drop}
use Rattle.std.proofs.lemmas.Bool.{cases_lt, lt-ltb, le-ltb, ne_eqb, or_parts}
use Rattle.std.proofs.lemmas.Bool.Decides.{nat_tests}
use Rattle.pdb_records.specs.declared.ids.IdIndex.{IdIndex}
use Rattle.pdb_inline.specs.Sites.{Site, depth, at_depth}
use Rattle.pdb_inline.specs.SiteRows.{row_ranges}
use Rattle.pdb_inline.specs.InlineRanges.{inner_ranges, missing, added_ranges}
use Rattle.pdb_inline.specs.CoveredRuns.{deeper_ranges, added_by_depth}
use Rattle.pdb_inline.proofs.NestingLemmas.{AllBelow, Falls, AreNested, falls_drop, falls_next, site_falls}

-- whether a position is among others
abbrev pub is_among : ℕ → List ℕ → Bool
is_among q ps = list_any (λ p. p == q) ps

-- a position is not among lower ones
pub not_among_lower : (n q : ℕ) (ps : List ℕ) → n ≤ q → AllBelow n ps → is_among q ps ≡ false
not_among_lower n q [] above below = refl
not_among_lower n q (p ∷ ps) above below =
    let other : eqb p q ≡ false = ne_eqb p q (λ same. omega arith) in rw other (not_among_lower n q ps above below.1)

-- a position that isn't among some isn't among the last of them
pub not_among_drop : (q n : ℕ) (ps : List ℕ) → is_among q ps ≡ false → is_among q (drop n ps) ≡ false
not_among_drop q zero ps none = none
not_among_drop q (suc n) [] none = none
not_among_drop q (suc n) (p ∷ ps) none = not_among_drop q n ps (or_parts (eqb p q) (is_among q ps) none).1

-- where a position stands ahead of the last ones of some that fall, it is among as many of them as are more than those
pub among_by_length : (q k n : ℕ) (lower ps : List ℕ) → Falls ps → drop k ps ≡ q ∷ lower
    → is_among q (drop n ps) ≡ ltb (length lower) (length (drop n ps))
among_by_length q zero n lower [] falls stands = absurd cc
among_by_length q (suc k) n lower [] falls stands = absurd cc
among_by_length q zero zero lower (p ∷ ps) falls stands = grind (arith, nat_tests)
among_by_length q zero (suc n) lower (p ∷ ps) falls stands =
    let none = not_among_lower p p (drop n ps) (omega arith) (falls_drop p n ps falls).0 in
    let short = length-drop n ps in grind (arith, nat_tests)
among_by_length q (suc k) zero lower (p ∷ ps) falls stands =
    let later = among_by_length q k zero lower ps falls.1 stands in
    let long : length lower < length ps = omega (arith, length-drop k ps, ap length stands) in
    grind (arith, nat_tests)
among_by_length q (suc k) (suc n) lower (p ∷ ps) falls stands = among_by_length q k n lower ps falls.1 stands

-- the rows of those sites that a position is among the outer ones of
abbrev pub rows_inside : List IdIndex → ℕ → List Site → List (ℕ × ℕ)
rows_inside inlinees q sites =
    flat_map (λ inner. row_ranges inlinees inner.symbol) (filter (λ inner. is_among q inner.outer) sites)

-- once sites have left a position behind, none of them is inside of it again, as none begins before a number that they
-- have left behind
pub left_behind : (q end from : ℕ) (outer : List ℕ) (sites : List Site) → q < from → end ≤ from
    → is_among q outer ≡ false → AreNested from outer sites
    → AllByRecursion (λ inner. is_among q inner.outer ≡ ltb inner.position end) sites
left_behind q end from outer [] low ended left nested = tt
left_behind q end from outer (site ∷ sites) low ended left nested =
    let here : is_among q site.outer ≡ false = rw nested.1.1 (not_among_drop q nested.1.0 outer left) in
    let other : eqb site.position q ≡ false = ne_eqb site.position q (λ same. omega (arith, nested.0)) in (
      here ∙ sym (le-ltb site.position end (omega (arith, nested.0))),
      left_behind q end (site.position + 1) (site.position ∷ site.outer) sites (omega (arith, nested.0))
          (omega (arith, nested.0)) (rw other here) nested.2,
    )

-- where no site is inside of a position, no rows are
none_inside : (inlinees : List IdIndex) (q : ℕ) (sites : List Site)
    → AllByRecursion (λ inner. is_among q inner.outer ≡ ltb inner.position 0) sites → rows_inside inlinees q sites ≡ []
none_inside inlinees q [] left = refl
none_inside inlinees q (site ∷ sites) left =
    rw (left.0, le-ltb site.position 0 (omega arith)) (none_inside inlinees q sites left.1)

-- the rows inside of a position are those of the sites that follow at once and are deeper than the lower ones are many
inside_by_depth : (inlinees : List IdIndex) (q from k : ℕ) (lower outer : List ℕ) (sites : List Site)
    → Falls (from ∷ outer) → drop k outer ≡ q ∷ lower → AreNested from outer sites
    → rows_inside inlinees q sites ≡ deeper_ranges inlinees (length lower) (map at_depth sites)
inside_by_depth inlinees q from k lower outer [] falls stands nested = refl
inside_by_depth inlinees q from k lower outer (site ∷ sites) falls stands nested =
    let n = nested.1.0 in
    let there : is_among q site.outer ≡ ltb (length lower) (length site.outer) =
    rw nested.1.1 (among_by_length q k n lower outer falls.1 stands) in
    let next = site_falls from outer site sites falls nested in
    elim (cases_lt (length lower) (length site.outer)) [
      | inl deeper ↦
          let inside : is_among q site.outer ≡ true = there ∙ lt-ltb (length lower) (length site.outer) deeper in
          let before : n + (k - n) ≡ k =
          omega (arith, length-drop k outer, length-drop n outer, ap length stands, ap length nested.1.1) in
          let ahead : drop (k - n) site.outer ≡ q ∷ lower =
          rw nested.1.1 (drop-drop (k - n) n outer ∙ (rw before stands)) in
          rw (
            inside,
            lt-ltb (length lower) (length site.outer) deeper,
            inside_by_depth inlinees q (site.position + 1) (suc (k - n)) lower (site.position ∷ site.outer) sites
                (falls_next site.position site.outer next) ahead nested.2,
          ) refl
      | inr not_deeper ↦
          let outside : is_among q site.outer ≡ false = there ∙ le-ltb (length lower) (length site.outer) not_deeper in
          let low = (rw stands at (falls_drop from k outer falls)).0.0 in
          let other : eqb site.position q ≡ false = ne_eqb site.position q (λ same. omega (arith, low, nested.0)) in
          rw (outside, le-ltb (length lower) (length site.outer) not_deeper)
          (none_inside inlinees q sites (left_behind q 0 (site.position + 1) (site.position ∷ site.outer) sites
          (omega (arith, low, nested.0)) (omega arith) (rw other outside) nested.2))
    ]

-- the ranges that are added to nested sites are those by depth, where all sites from each position on are these
pub added_in_all : (inlinees : List IdIndex) (from : ℕ) (outer : List ℕ) (all sites : List Site) → Falls (from ∷ outer)
    → AreNested from outer sites → ((q : ℕ) → from ≤ q → rows_inside inlinees q all ≡ rows_inside inlinees q sites)
    → flat_map (λ site. added_ranges inlinees (depth site) site.symbol (missing inlinees all site)) sites
    ≡ added_by_depth inlinees (map at_depth sites)
added_in_all inlinees from outer all [] falls nested same = refl
added_in_all inlinees from outer all (site ∷ sites) falls nested same =
    let here = site_falls from outer site sites falls nested in
    let next = falls_next site.position site.outer here in
    let skipped : (q : ℕ) → site.position ≤ q → rows_inside inlinees q all ≡ rows_inside inlinees q sites = λ q above.
    same q (omega (arith, nested.0)) ∙ rw (not_among_lower site.position q site.outer above here.0) refl in
    let inner : inner_ranges inlinees all site ≡ deeper_ranges inlinees (length site.outer) (map at_depth sites) =
    skipped site.position (omega arith)
    ∙ inside_by_depth inlinees site.position (site.position + 1) 0 site.outer (site.position ∷ site.outer) sites next
    refl nested.2 in
    rw (
      inner,
      added_in_all inlinees (site.position + 1) (site.position ∷ site.outer) all sites next nested.2
          (λ q above. skipped q (omega arith)),
    ) refl
