-- Sites come in order of their positions, each inside of some of what its predecessor was in, or of that.
use Rattle.std.proofs.Common.{◌≡◌, ◌∙◌, ℕ, zero, suc, ◌+◌, ◌<◌, ◌≤◌, List, [], ◌∷◌, map, drop, refl, subst, arith}
use Rattle.std.proofs.Common.{inl, inr}
use Rattle.std.specs.List.{Contains}
use Rattle.std.specs.Prelude.{Option, Some, None, option_map}
use Rattle.std.proofs.lemmas.Bool.{cases_lt, le-leb, lt-leb}
use Rattle.std.proofs.lemmas.List.{drop-drop}
use Rattle.pdb_records.specs.declared.error.StreamError.{StreamError}
use Rattle.pdb_records.specs.declared.symbols.Symbol.{Symbol}
use Rattle.pdb_records.specs.declared.symbols.InlineSiteSymbol.{InlineSiteSymbol}
use Rattle.pdb_inline.specs.Sites.{Site, OpenSite, Walk, walk_from, walk, innermost_end, after_close, found_first}
use Rattle.pdb_inline.specs.Sites.{opened_at, site_of, nested_end, through_after, open_after}

-- positions that are all below a number
abbrev pub AllBelow : ℕ → List ℕ → Type 0
AllBelow n [] = Unit {0}
AllBelow n (p ∷ ps) = (p < n) × AllBelow n ps

-- positions of which each is above all later ones
abbrev pub Falls : List ℕ → Type 0
Falls [] = Unit {0}
Falls (p ∷ ps) = AllBelow p ps × Falls ps

-- sites from a position on, the first of them inside of the last ones of these positions, and each later one inside of
-- the last ones of its predecessor and what that is inside of
abbrev pub AreNested : ℕ → List ℕ → List Site → Type 0
AreNested from outer [] = Unit {0}
AreNested from outer (site ∷ sites) =
    (from ≤ site.position) × ((n : ℕ) × (site.outer ≡ drop n outer)) × AreNested (site.position + 1)
    (site.position ∷ site.outer) sites

-- the positions of open sites
abbrev pub positions : List OpenSite → List ℕ
positions outer = map (λ site. site.position) outer

-- positions that fall from a number fall from any greater one
pub falls_later : (m n : ℕ) (ps : List ℕ) → m ≤ n → Falls (m ∷ ps) → Falls (n ∷ ps)
falls_later m n [] lower falls = falls
falls_later m n (p ∷ ps) lower falls =
    ((omega arith, (falls_later m n ps lower (falls.0.1, falls.1.1)).0), falls.1)

-- so do the last ones of them
pub falls_drop : (n k : ℕ) (ps : List ℕ) → Falls (n ∷ ps) → Falls (n ∷ drop k ps)
falls_drop n zero ps falls = falls
falls_drop n (suc k) [] falls = falls
falls_drop n (suc k) (p ∷ ps) falls = falls_drop n k ps (falls.0.1, falls.1.1)

-- and so they do with that number ahead
pub falls_next : (n : ℕ) (ps : List ℕ) → Falls (n ∷ ps) → Falls ((n + 1) ∷ n ∷ ps)
falls_next n ps falls = ((omega arith, (falls_later n (n + 1) ps (omega arith) falls).0), falls)

-- a site's position falls to those that it is inside of
pub site_falls : (from : ℕ) (outer : List ℕ) (site : Site) (sites : List Site) → Falls (from ∷ outer)
    → AreNested from outer (site ∷ sites) → Falls (site.position ∷ site.outer)
site_falls from outer site sites falls nested =
    rw nested.1.1 (falls_drop site.position nested.1.0 outer (falls_later from site.position outer nested.0 falls))

-- nested sites stand from a position on
pub nested_position : (from : ℕ) (outer : List ℕ) (sites : List Site) (site : Site) → AreNested from outer sites
    → Contains sites site → from ≤ site.position
nested_position from outer [] site nested (k, within, is) = absurd (omega arith)
nested_position from outer (first ∷ sites) site nested (zero, within, is) =
    subst (λ (s : Site). from ≤ s.position) is nested.0
nested_position from outer (first ∷ sites) site nested (suc k, within, is) =
    let later = nested_position (first.position + 1) (first.position ∷ first.outer) sites site nested.2
    (k, omega arith, is) in omega (arith, later, nested.0)

-- sites from a position on, inside of the last ones of some, are from any lower one on, and inside of some of all
nested_lower : (m n k : ℕ) (outer : List ℕ) (sites : List Site) → m ≤ n → AreNested n (drop k outer) sites
    → AreNested m outer sites
nested_lower m n k outer [] lower nested = tt
nested_lower m n k outer (site ∷ sites) lower nested =
    (omega (arith, nested.0), (k + nested.1.0, nested.1.1 ∙ drop-drop nested.1.0 k outer), nested.2)

-- what holds of a walk from a position on, with some sites open, and of the sites that it finds: it holds where there
-- are none, and where it holds of what follows a symbol that is passed over, closes a site or opens one
pub record Turns (P : ℕ → List OpenSite → List Site → Type 0) (end : ℕ) : Type 0 where
  pub nothing : (at : ℕ) (outer : List OpenSite) → P at outer []
  pub passed : (at : ℕ) (outer : List OpenSite) (sites : List Site) → P (at + 1) outer sites → P at outer sites
  pub closed : (at : ℕ) (site : OpenSite) (outer : List OpenSite) (sites : List Site) → site.end ≤ at
      → P (at + 1) outer sites → P at (site ∷ outer) sites
  pub opened : (at : ℕ) (outer : List OpenSite) (symbol : InlineSiteSymbol) (sites : List Site)
      → at < innermost_end end outer → P (at + 1) (open_after at (Some symbol) outer) sites
      → P at outer (opened_at at outer symbol ∷ sites)

-- so it holds of each walk
pub by_turns : (P : ℕ → List OpenSite → List Site → Type 0) (fault : Option StreamError) (end : ℕ) → Turns P end
    → (symbols : List Symbol) (at through : ℕ) (outer : List OpenSite)
    → P at outer (walk_from fault end symbols at through outer).sites
by_turns P fault end turns [] at through outer = turns.nothing at outer
by_turns P fault end turns (symbol ∷ symbols) at through outer =
    elim (cases_lt through at) [
      | inl from ↦ rw (lt-leb at through from) (elim (cases_lt at (innermost_end end outer)) [
        | inl before ↦ rw (lt-leb (innermost_end end outer) at before) (found (site_of symbol) before
            (walk_from fault end symbols (at + 1) (through_after at (nested_end symbol) through)
            (open_after at (site_of symbol) outer))
            (by_turns P fault end turns symbols (at + 1) (through_after at (nested_end symbol) through)
            (open_after at (site_of symbol) outer)))
        | inr closes ↦ rw (le-leb (innermost_end end outer) at closes) (closed outer closes
            (λ others. by_turns P fault end turns symbols (at + 1) through others))
      ])
      | inr passed ↦ rw (le-leb at through passed)
          (turns.passed at outer _ (by_turns P fault end turns symbols (at + 1) through outer))
    ]
  where
    found : (symbol : Option InlineSiteSymbol) → at < innermost_end end outer → (rest : Walk)
        → P (at + 1) (open_after at symbol outer) rest.sites
        → P at outer (found_first (option_map (opened_at at outer) symbol) rest).sites
    found None before rest later = turns.passed at outer rest.sites later
    found (Some s) before rest later = turns.opened at outer s rest.sites before later

    closed : (outer : List OpenSite) → innermost_end end outer ≤ at
        → ((others : List OpenSite) → P (at + 1) others (walk_from fault end symbols (at + 1) through others).sites)
        → P at outer (after_close outer (walk_from fault end symbols (at + 1) through (drop 1 outer))).sites
    closed [] ended later = turns.nothing at []
    closed (site ∷ outer) ended later = turns.closed at site outer _ ended (later outer)

-- nesting holds so
pub nested_turns : (end : ℕ) → Turns (λ at outer sites. AreNested at (positions outer) sites) end
nested_turns end = record {
  nothing = λ at outer. tt;
  passed = λ at outer sites nested. nested_lower at (at + 1) 0 (positions outer) sites (omega arith) nested;
  closed = λ at site outer sites _ nested.
      nested_lower at (at + 1) 1 (site.position ∷ positions outer) sites (omega arith) nested;
  opened = λ at outer symbol sites _ nested. (omega arith, (zero, refl), nested);
}

-- the sites of the walk of a procedure are nested, and inside of nothing else
pub procedure_nested : (symbols : List Symbol) (fault : Option StreamError) (position end : ℕ)
    → AreNested 0 [] (walk symbols fault position end).sites
procedure_nested symbols fault position end =
    nested_lower 0 position 0 [] (walk symbols fault position end).sites (omega arith)
    (by_turns (λ at outer sites. AreNested at (positions outer) sites) fault end (nested_turns end)
    (drop position symbols) position position [])
