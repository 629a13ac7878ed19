-- Inline sites: the places in a procedure where a call was replaced by the callee's body.
use Rattle.std.specs.Prelude.{ℕ, ◌+◌, List, [], ◌∷◌, ◌++◌, length, map, drop, nat_lt, nat_le, Option}
use Rattle.std.specs.Prelude.{Some, None, Result, Ok, option_map, option_to_list, if◌then◌else◌}
use Rattle.pdb_records.specs.SymbolKinds.{is_site_kind}
use Rattle.pdb_records.specs.declared.error.Error.TheVariants.{Stream}
use Rattle.pdb_records.specs.declared.error.StreamError.{StreamError}
use Rattle.pdb_records.specs.declared.symbols.Symbol.{Symbol}
use Rattle.pdb_records.specs.declared.symbols.SymbolData.{SymbolData}
use Rattle.pdb_records.specs.declared.symbols.SymbolData.TheVariants.{Procedure, InlineSite}
use Rattle.pdb_records.specs.declared.symbols.InlineSiteSymbol.{InlineSiteSymbol}
use Rattle.pdb_errors.specs.declared.error.Error.{Error}
use Rattle.pdb_errors.specs.declared.error.Error.TheVariants.{PdbError}
use Rattle.pdb_inline.specs.declared.sites.Site as code
use Rattle.pdb_errors.specs.Outcomes.{unless}

-- the inline site in a symbol's content, if it is one
abbrev pub site_data : Option SymbolData → Option InlineSiteSymbol
site_data (Some (InlineSite s)) = Some s
site_data other = None

-- the inline site that a symbol opens, if it opens one
abbrev pub site_of : Symbol → Option InlineSiteSymbol
site_of symbol = if is_site_kind symbol.raw_kind then site_data symbol.content else None

-- the position of the end symbol of a procedure in a symbol's content
abbrev pub procedure_data_end : Option SymbolData → Option ℕ
procedure_data_end (Some (Procedure s)) = Some s.end.0
procedure_data_end other = None

-- the position of the end symbol of a procedure in a symbol with the kind of a site, if there is one
abbrev pub nested_end : Symbol → Option ℕ
nested_end symbol = if is_site_kind symbol.raw_kind then procedure_data_end symbol.content else None

-- a site of a procedure: the position of its symbol, the positions of the sites around it, the innermost first, and its
-- symbol's content
pub record Site : Type 0 where
  pub position : ℕ
  pub outer : List ℕ
  pub symbol : InlineSiteSymbol

-- the depth of a site: the number of sites around it
abbrev pub depth : Site → ℕ
depth site = length site.outer

-- an open site: the position of its symbol, and that of its end symbol
pub record OpenSite : Type 0 where
  pub position : ℕ
  pub end : ℕ

-- the result of a walk: the sites, and the list's fault if the walk reaches it
pub record Walk : Type 0 where
  pub sites : List Site
  pub fault : Option StreamError

-- the position at which the innermost open site ends, or the procedure if no site is open
abbrev pub innermost_end : ℕ → List OpenSite → ℕ
innermost_end end [] = end
innermost_end end (site ∷ outer) = site.end

-- the position up to which symbols are skipped, after the symbol at a position; a procedure inside is skipped up to its
-- end, if that comes after its symbol
abbrev pub through_after : ℕ → Option ℕ → ℕ → ℕ
through_after at None through = through
through_after at (Some end) through = if nat_lt at end then end else through

-- the sites that are open after the symbol at a position, the innermost first
abbrev pub open_after : ℕ → Option InlineSiteSymbol → List OpenSite → List OpenSite
open_after at None outer = outer
open_after at (Some symbol) outer = record { position = at; end = symbol.end.0 } ∷ outer

-- the site that the symbol at a position opens inside others
abbrev pub opened_at : ℕ → List OpenSite → InlineSiteSymbol → Site
opened_at at outer symbol = record { position = at; outer = map (λ site. site.position) outer; symbol = symbol }

-- the result of a walk with a site before the others, if there is one
abbrev pub found_first : Option Site → Walk → Walk
found_first site rest = record rest { sites = option_to_list site ++ rest.sites }

-- the result of a walk after a symbol closes the innermost open site: the rest, or nothing more if it closes the
-- procedure
abbrev pub after_close : List OpenSite → Walk → Walk
after_close [] rest = record { sites = []; fault = None }
after_close (site ∷ outer) rest = rest

-- the walk of a procedure over the symbols from a position on, with these sites open, the innermost first. Symbols up
-- to `through` are skipped. A symbol at or past the innermost end only closes what ends there, whatever its content is.
-- At the end of the symbols the walk reaches their fault, if there is one
abbrev pub walk_from : Option StreamError → ℕ → List Symbol → ℕ → ℕ → List OpenSite → Walk
walk_from fault end [] at through outer = record { sites = []; fault = fault }
walk_from fault end (symbol ∷ symbols) at through outer =
    if nat_le at through then walk_from fault end symbols (at + 1) through outer
    else if nat_le (innermost_end end outer) at
    then after_close outer (walk_from fault end symbols (at + 1) through (drop 1 outer))
    else found_first (option_map (opened_at at outer) (site_of symbol))
    (walk_from fault end symbols (at + 1) (through_after at (nested_end symbol) through)
    (open_after at (site_of symbol) outer))

-- the walk of the procedure whose symbol is at a position, and whose end symbol is at another; it begins after the
-- procedure's symbol
abbrev pub walk : List Symbol → Option StreamError → ℕ → ℕ → Walk
walk symbols fault position end = walk_from fault end (drop position symbols) position position []

-- the result of a walk; an error if it reached the list's fault
abbrev pub unless_met : {A : Type 0} → Walk → A → Result A Error
unless_met w answer = unless (option_map (λ fault. PdbError (Stream fault)) w.fault) (Ok answer)

-- a site with its depth instead of the sites around it
pub record SiteAtDepth : Type 0 where
  pub position : ℕ
  pub depth : ℕ
  pub symbol : InlineSiteSymbol

-- a site with its depth
abbrev pub at_depth : Site → SiteAtDepth
at_depth site = record { position = site.position; depth = depth site; symbol = site.symbol }

-- the model of the code's `Site`
abbrev pub site_view : code.Site → SiteAtDepth
site_view site = record { position = site.position; depth = site.depth; symbol = site.symbol.now }

-- the model of the code's `Site` as an open site
abbrev pub open_site : code.Site → OpenSite
open_site site = record { position = site.position; end = site.symbol.now.end.0 }
