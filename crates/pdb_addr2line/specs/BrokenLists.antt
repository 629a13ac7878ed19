-- An example: a list of symbols in which two inline sites of one depth have ranges over the same code.
use Rattle.std.specs.Prelude.{ℕ, List, [], ◌∷◌, Some, None}
use Rattle.pdb_records.specs.declared.ids.IdIndex.{IdIndex}
use Rattle.pdb_records.specs.declared.symbols.InlineRow.{InlineRow}
use Rattle.pdb_records.specs.declared.symbols.Symbol.{Symbol}
use Rattle.pdb_records.specs.declared.symbols.SymbolData.TheVariants.{InlineSite, Other}
use Rattle.pdb_inline.specs.Sites.{Site, walk}

-- the ids of the inlined functions
abbrev pub inlinees : List IdIndex
inlinees = record { 0 = 4097 } ∷ record { 0 = 4098 } ∷ record { 0 = 4099 } ∷ []

-- a row of the sixteen bytes from offset 32 on
abbrev pub row : InlineRow
row = record { offset = 32; length = Some 16; file_index = record { 0 = 0 }; line_start = 0 }

-- a symbol that opens an inline site of an id, with these rows; the symbol at a position closes it
abbrev pub site : ℕ → ℕ → List InlineRow → Symbol
site inlinee end rows = record {
  raw_kind = 4429;
  content = Some (InlineSite (record {
    inlinee = record { 0 = inlinee };
    end = record { 0 = end };
    rows = record { items = rows; fault = None };
  }));
}

-- a symbol that opens nothing
abbrev pub other : Symbol
other = record { raw_kind = 4430; content = Some Other }

-- the symbols of a procedure: a site without rows, inside it a site with the row, and after both a third site with the
-- same row
abbrev pub own_row_beside_an_added_range : List Symbol
own_row_beside_an_added_range =
    other ∷ site 4097 4 [] ∷ site 4098 3 (row ∷ []) ∷ other ∷ other
    ∷ site 4099 6 (row ∷ []) ∷ other ∷ other ∷ []

-- the sites that its walk finds
abbrev pub sites : List Site
sites = (walk own_row_beside_an_added_range None 0 7).sites
