-- A walk over symbols that were read to their end.
use Rattle.std.proofs.Common.{◌≡◌, ℕ, ◌+◌, List, [], ◌∷◌, drop, refl, inl, inr}
use Rattle.std.specs.Prelude.{None}
use Rattle.std.proofs.lemmas.Bool.{cases_lt, le-leb, lt-leb}
use Rattle.pdb_records.specs.declared.symbols.Symbol.{Symbol}
use Rattle.pdb_inline.specs.Sites.{OpenSite, walk_from, innermost_end, after_close, site_of, nested_end}
use Rattle.pdb_inline.specs.Sites.{through_after, open_after}

-- a walk over symbols without a fault meets none
pub meets_no_fault : (end : ℕ) (symbols : List Symbol) (at through : ℕ) (outer : List OpenSite)
    → (walk_from None end symbols at through outer).fault ≡ None
meets_no_fault end [] at through outer = refl
meets_no_fault end (symbol ∷ symbols) at through outer =
    elim (cases_lt through at) [
      | inl from ↦ rw (lt-leb at through from) (elim (cases_lt at (innermost_end end outer)) [
        | inl before ↦ rw (lt-leb (innermost_end end outer) at before) (meets_no_fault end symbols (at + 1)
            (through_after at (nested_end symbol) through) (open_after at (site_of symbol) outer))
        | inr closes ↦ rw (le-leb (innermost_end end outer) at closes) (closed outer
            (λ others. meets_no_fault end symbols (at + 1) through others))
      ])
      | inr passed ↦ rw (le-leb at through passed) (meets_no_fault end symbols (at + 1) through outer)
    ]
  where
    closed : (outer : List OpenSite)
        → ((others : List OpenSite) → (walk_from None end symbols (at + 1) through others).fault ≡ None)
        → (after_close outer (walk_from None end symbols (at + 1) through (drop 1 outer))).fault ≡ None
    closed [] met = refl
    closed (site ∷ outer) met = met outer
