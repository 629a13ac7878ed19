-- The turns of a walk, one symbol at a time.
use Rattle.std.proofs.Common.{◌≡◌, ◌∙◌, ℕ, zero, suc, ◌+◌, ◌-◌, ◌<◌, ◌≤◌, min, List, [], ◌∷◌, ◌++◌, length, map, drop}
use Rattle.std.proofs.Common.{reverse, refl, arith, inl, inr, add-zero, false, sym}
use Rattle.std.specs.Prelude.{◌⊎◌, Option, Some, None, Ok, option_map, option_to_list, is_some}
use Rattle.std.proofs.lemmas.Bool.{cases_lt, le-leb, lt-leb}
use Rattle.std.proofs.lemmas.Bool.Decides.{nat_tests}
use Rattle.std.proofs.lemmas.List.{map-append, reverse-append, append-nil, append_assoc, length-reverse, length-map}
use Rattle.std.proofs.lemmas.List.{drop-drop, drop_all, drop_more}
use Rattle.pdb_records.specs.declared.error.StreamError.{StreamError}
use Rattle.pdb_records.specs.declared.symbols.Symbol.{Symbol}
use Rattle.pdb_records.specs.declared.symbols.InlineSiteSymbol.{InlineSiteSymbol}
use Rattle.pdb_inline.specs.declared.sites.Site as code
use Rattle.pdb_inline.specs.Sites.{open_site, at_depth, unless_met, SiteAtDepth, Site, OpenSite, Walk, walk_from, walk}
use Rattle.pdb_inline.specs.Sites.{innermost_end, after_close, found_first, opened_at, site_of, nested_end}
use Rattle.pdb_inline.specs.Sites.{through_after, open_after}

-- symbols that are passed over change nothing
passed_over : (fault : Option StreamError) (end : ℕ) (symbols : List Symbol) (at count through : ℕ)
    (outer : List OpenSite) → at + count ≤ through + 1
    → walk_from fault end symbols at through outer ≡ walk_from fault end (drop count symbols) (at + count) through outer
passed_over fault end symbols at zero through outer passed = rw (add-zero at) refl
passed_over fault end [] at (suc count) through outer passed = refl
passed_over fault end (symbol ∷ symbols) at (suc count) through outer passed =
    let next : at + suc count ≡ (at + 1) + count = omega arith in
    rw (le-leb at through (omega arith), next)
    (passed_over fault end symbols (at + 1) count through outer (omega arith))

-- what is the same for two positions up to which symbols were passed over is so behind a symbol
through_alike : {T : Type 0} (f : ℕ → T) (at m n : ℕ) (end : Option ℕ) → f m ≡ f n
    → f (through_after at end m) ≡ f (through_after at end n)
through_alike f at m n end same = grind (arith, nat_tests)

-- behind a position it doesn't matter up to where before it symbols were passed over
passed_before : (fault : Option StreamError) (end : ℕ) (symbols : List Symbol) (at m n : ℕ) (outer : List OpenSite)
    → m < at → n < at → walk_from fault end symbols at m outer ≡ walk_from fault end symbols at n outer
passed_before fault end [] at m n outer a b = refl
passed_before fault end (symbol ∷ symbols) at m n outer a b =
    let opened = open_after at (site_of symbol) outer in
    rw (
      lt-leb at m a,
      lt-leb at n b,
      passed_before fault end symbols (at + 1) m n (drop 1 outer) (omega arith) (omega arith),
      through_alike (λ through. walk_from fault end symbols (at + 1) through opened) at m n (nested_end symbol)
          (passed_before fault end symbols (at + 1) m n opened (omega arith) (omega arith)),
    ) refl

-- the walk may jump behind what is passed over, or behind the list
jumped : (fault : Option StreamError) (end : ℕ) (symbols : List Symbol) (at through next limit : ℕ)
    (outer : List OpenSite) → next ≡ min (through + 1) limit → at ≤ next → 0 < next → length symbols ≤ limit
    → walk_from fault end (drop at symbols) at through outer ≡ walk_from fault end (drop next symbols) next 0 outer
jumped fault end symbols at through next limit outer is from some within =
    let there : at + (next - at) ≡ next = omega arith in
    let over = rw (drop-drop (next - at) at symbols, there)
    at (passed_over fault end (drop at symbols) at (next - at) through outer (omega arith)) in
    over ∙ elim (cases_lt through limit) [
      | inl below ↦ passed_before fault end (drop next symbols) next through 0 outer (omega arith) some
      | inr past ↦ rw (drop_all next symbols (omega arith)) refl
    ]

-- a walk begins behind the procedure's symbol
pub begun : (fault : Option StreamError) (end : ℕ) (symbols : List Symbol) (position next limit : ℕ)
    → next ≡ min (position + 1) limit → length symbols ≤ limit → 0 < limit → position ≤ limit
    → walk symbols fault position end ≡ walk_from fault end (drop next symbols) next 0 []
begun fault end symbols position next limit is within some fits =
    jumped fault end symbols position position next limit [] is (omega arith) (omega arith) within

-- the walk goes on behind a symbol, or behind the end of the procedure that it shows
gone_on : (fault : Option StreamError) (end : ℕ) (symbols : List Symbol) (at next limit : ℕ) (outer : List OpenSite)
    (inner_end : Option ℕ) → next ≡ min (through_after at inner_end at + 1) limit → at < length symbols
    → length symbols ≤ limit → walk_from fault end (drop (at + 1) symbols) (at + 1) (through_after at inner_end 0) outer
    ≡ walk_from fault end (drop next symbols) next 0 outer
gone_on fault end symbols at next limit outer inner_end is here within =
    let through = through_after at inner_end at in
    let cases : ((through_after at inner_end 0 ≡ 0) × (next ≡ at + 1))
    ⊎ ((through_after at inner_end 0 ≡ through) × (at < through)) = grind (arith, nat_tests) in
    elim cases [
      | inl same ↦ rw (same.0, same.1) refl
      | inr far ↦ rw far.0 (jumped fault end symbols (at + 1) through next limit outer is (omega arith) (omega arith)
          within)
    ]

-- a symbol at or past the innermost end closes it
pub turn_closed : (fault : Option StreamError) (end : ℕ) (symbols : List Symbol) (at through : ℕ)
    (outer : List OpenSite) → at < length symbols → through < at → innermost_end end outer ≤ at
    → walk_from fault end (drop at symbols) at through outer
    ≡ after_close outer (walk_from fault end (drop (at + 1) symbols) (at + 1) through (drop 1 outer))
turn_closed fault end [] at through outer within from closed = absurd (omega arith)
turn_closed fault end (symbol ∷ symbols) at through outer within from closed =
    rw (
      drop_more (symbol ∷ symbols) at symbol within,
      lt-leb at through from,
      le-leb (innermost_end end outer) at closed,
    ) refl

-- any other symbol counts by what it holds
pub turn_counted : (fault : Option StreamError) (end : ℕ) (symbols : List Symbol) (at next limit : ℕ)
    (outer : List OpenSite) (symbol : Symbol)
    → drop at symbols ≡ symbol ∷ drop (at + 1) symbols → 0 < at → at < innermost_end end outer
    → next ≡ min (through_after at (nested_end symbol) at + 1) limit → at < length symbols → length symbols ≤ limit
    → walk_from fault end (drop at symbols) at 0 outer
    ≡ found_first (option_map (opened_at at outer) (site_of symbol))
    (walk_from fault end (drop next symbols) next 0 (open_after at (site_of symbol) outer))
turn_counted fault end symbols at next limit outer symbol here from before is within fits =
    rw (
      here,
      lt-leb at 0 from,
      lt-leb (innermost_end end outer) at before,
      gone_on fault end symbols at next limit (open_after at (site_of symbol) outer) (nested_end symbol) is within fits,
    ) refl

-- with the last entry of the code's list gone, the innermost site is closed; an empty list has none to close
pub closed_rest : (old new : List code.Site) (last : Option code.Site) → old ≡ new ++ option_to_list last
    → (is_some last ≡ false → length old ≡ 0) → reverse (map open_site new) ≡ drop 1 (reverse (map open_site old))
closed_rest [] new None is none = let empty : new ≡ [] = rw (append-nil new) at (sym is) in rw empty refl
closed_rest (site ∷ old) new None is none = absurd (let no = none refl in omega arith)
closed_rest old new (Some site) is none =
    rw (is, map-append open_site new (site ∷ []), reverse-append (map open_site new) (open_site site ∷ [])) refl

-- where a site is open, closing one leaves the rest of the walk
pub closed_site : (old : List code.Site) (rest : Walk) → 0 < length old
    → after_close (reverse (map open_site old)) rest ≡ rest
closed_site old rest some =
    let many : 0 < length (reverse (map open_site old)) = simp (length-reverse, length-map) some in grind arith

-- where the code's list is empty, the procedure is closed
pub closed_procedure : (old : List code.Site) (rest : Walk) → length old ≡ 0
    → after_close (reverse (map open_site old)) rest ≡ record { sites = []; fault = None }
closed_procedure [] rest empty = refl
closed_procedure (site ∷ old) rest empty = absurd (omega arith)

-- a site that is found goes behind those that were found before
pub found_more : (opened : InlineSiteSymbol → Site) (symbol : Option InlineSiteSymbol)
    (found new all : List SiteAtDepth) (rest : List Site)
    → found ++ map at_depth (option_to_list (option_map opened symbol) ++ rest) ≡ all
    → new ≡ found ++ option_to_list (option_map (λ s. at_depth (opened s)) symbol) → new ++ map at_depth rest ≡ all
found_more opened None found new all rest is pushed = rw (pushed, append-nil found) is
found_more opened (Some s) found new all rest is pushed =
    rw (pushed, append_assoc found (at_depth (opened s) ∷ []) (map at_depth rest)) is

-- a walk that stops answers what it has found
pub stopped : (w : Walk) (found all : List SiteAtDepth) → found ++ [] ≡ all → None ≡ w.fault
    → unless_met w all ≡ Ok found
stopped w found all is none = rw (← none, ← is, append-nil found) refl
