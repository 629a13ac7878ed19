-- Separated code: the chunks of functions apart from their main code, and how annotations of inline sites name them.
use Rattle.std.specs.Prelude.{ℕ, ◌-◌, ◌==◌, not, nat_lt, List, length, slice_get, Option, Some, None, option_and_then}
use Rattle.std.specs.Prelude.{filter, filter_map, if◌then◌else◌}
use Rattle.pdb_tables.specs.InOrder.{in_order}
use Rattle.pdb_records.specs.SymbolKinds.{s_sepcode}
use Rattle.pdb_codeview.specs.declared.chunks.Chunk.{Chunk}
use Rattle.pdb_codeview.specs.declared.chunks.CodePlace.{CodePlace}
use Rattle.pdb_codeview.specs.Places.{place, stands_before}
use Rattle.pdb_codeview.specs.SymbolRecords.{SymbolBytes, section_offset}

-- the chunk of a symbol (SEPCODESYM, 28 bytes). Its function starts at offParent, at 20, of the section sectParent, at
-- 26; the chunk itself starts at off, at 16, of the section sect, at 24
abbrev pub chunk_of : SymbolBytes → Option Chunk
chunk_of symbol =
    if not (symbol.raw_kind == s_sepcode) then None else
    if nat_lt (length symbol.content) 28 then None else
    Some (record {
      function = section_offset 20 26 symbol.content;
      start = section_offset 16 24 symbol.content;
    })

-- the chunks among a module's symbols, in their order
abbrev pub chunks_among : List SymbolBytes → List Chunk
chunks_among symbols = filter_map chunk_of symbols

-- the chunks sorted by the places of their functions; the chunks of one function keep the order of the symbols
abbrev pub chunks_by_function : List SymbolBytes → List Chunk
chunks_by_function symbols = in_order (stands_before (λ chunk. place chunk.function)) (chunks_among symbols)

-- the chunks of the function that starts at a place
abbrev pub chunks_at : ℕ → List Chunk → List Chunk
chunks_at function chunks = filter (λ chunk. place chunk.function == function) chunks

-- the offset of a chunk in this section; absent if the chunk is in another section
abbrev pub start_in : ℕ → Chunk → Option ℕ
start_in section chunk = if chunk.start.section == section then Some chunk.start.offset else None

-- the offset of the chunk with this number, counted from 1; absent if it is in another section, since rows name no
-- section
abbrev pub numbered_start : ℕ → List Chunk → ℕ → Option ℕ
numbered_start section chunks number = option_and_then (start_in section) (slice_get chunks (number - 1))

-- the chunks of the function that the code belongs to, by the module's symbols
abbrev pub chunks_of_code : List SymbolBytes → CodePlace → List Chunk
chunks_of_code symbols code = chunks_at (place code.function) (chunks_by_function symbols)

-- the offset of the chunk with a number, for an inline site in this code, by the module's symbols
abbrev pub chunk_start : List SymbolBytes → CodePlace → ℕ → Option ℕ
chunk_start symbols code = numbered_start code.start.section (chunks_of_code symbols code)
