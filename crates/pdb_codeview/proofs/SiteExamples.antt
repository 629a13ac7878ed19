-- Worked examples of the rows of inline sites, by bytes written by hand.
use Rattle.std.proofs.Common.{◌≡◌, ℕ, ◌==◌, List, [], ◌∷◌, ◌++◌, Option, Some, None, slice_get, refl}
use Rattle.std.specs.Prelude.{codes, if◌then◌else◌}
use Rattle.pdb_records.specs.Readings.{Read}
use Rattle.pdb_records.specs.declared.symbols.InlineRow.{InlineRow}
use Rattle.pdb_records.specs.declared.symbols.Symbol.{Symbol}
use Rattle.pdb_records.specs.declared.symbols.SymbolData.TheVariants.{InlineSite}
use Rattle.pdb_msf.specs.declared.faults.TheConstants.{APART, BAD_NUMBER}
use Rattle.pdb_codeview.specs.declared.annotations.Annotation.TheVariants as annotation
use Rattle.pdb_codeview.specs.declared.files.FileEntry.{FileEntry}
use Rattle.pdb_codeview.specs.Annotations.{annotations}
use Rattle.pdb_codeview.specs.InlineSites.{ModuleCode, rows_by}
use Rattle.pdb_codeview.specs.SymbolContents.{module_symbols}
use Rattle.pdb_msf.specs.ItemLists.{all_items}

-- a number below 256, as two bytes and as four
abbrev short : ℕ → List ℕ
short number = number ∷ 0 ∷ []

abbrev small : ℕ → List ℕ
small number = number ∷ 0 ∷ 0 ∷ 0 ∷ []

-- a function without chunks, and one whose first chunk starts at 128
abbrev no_chunk : ℕ → Option ℕ
no_chunk number = None

abbrev first_chunk : ℕ → Option ℕ
first_chunk number = if number == 1 then Some 128 else None

-- ChangeCodeOffsetAndLineOffset by 3 bytes and one line, and ChangeCodeLength of 5 bytes; zeros end the list
abbrev two_annotations : List ℕ
two_annotations = 11 ∷ 35 ∷ 4 ∷ 5 ∷ 0 ∷ 0 ∷ []

its_annotations : annotations no_chunk two_annotations ≡ record {
  items = annotation.AdvanceAndLine 3 2 ∷ annotation.Length 5 ∷ annotation.Other ∷ [];
  fault = None;
}
unfolding all_items
its_annotations = refl

-- ChangeCodeOffsetBase is followed to a chunk that is there, and is nothing for the main code; no annotation has the
-- kind 14
a_chunk : annotations first_chunk (2 ∷ 0 ∷ 2 ∷ 1 ∷ 3 ∷ 4 ∷ [])
    ≡ record { items = annotation.Other ∷ annotation.Chunk 128 ∷ annotation.Advance 4 ∷ []; fault = None }
unfolding all_items
a_chunk = refl

another_chunk : annotations first_chunk (3 ∷ 4 ∷ 2 ∷ 2 ∷ 3 ∷ 4 ∷ [])
    ≡ record { items = annotation.Advance 4 ∷ []; fault = Some APART }
unfolding all_items
another_chunk = refl

no_annotation : annotations no_chunk (14 ∷ 1 ∷ []) ≡ record { items = []; fault = Some BAD_NUMBER }
unfolding all_items
no_annotation = refl

-- the entry of a file that starts there
abbrev file_at_start : ℕ → FileEntry
file_at_start start = record { start = start; info = record { name = record { 0 = 7 } } }

-- in code that starts at 64, of a function that starts in the line 10 of the second file, whose entry starts at 24
abbrev rows_in : (ℕ → Option ℕ) → List ℕ → Read InlineRow
rows_in chunk bytes =
    rows_by (Some (record { file = 24; line = 10 })) (file_at_start 0 ∷ file_at_start 24 ∷ []) chunk 64 bytes

-- a row of the second file
abbrev row_at : ℕ → Option ℕ → ℕ → InlineRow
row_at offset length line =
    record { offset = offset; length = length; file_index = record { 0 = 1 }; line_start = line }

one_row : rows_in no_chunk two_annotations ≡ record { items = row_at 67 (Some 5) 11 ∷ []; fault = None }
unfolding all_items
one_row = refl

-- on 4 bytes, a row, and on to the chunk, where CodeOffset counts from the chunk's start, and the line goes on from the
-- one before; the row in front of the chunk doesn't reach to it
rows_of_two_chunks : rows_in first_chunk (3 ∷ 4 ∷ 2 ∷ 1 ∷ 1 ∷ 16 ∷ 11 ∷ 35 ∷ 4 ∷ 2 ∷ [])
    ≡ record { items = row_at 68 None 10 ∷ row_at 147 (Some 2) 11 ∷ []; fault = None }
unfolding all_items
rows_of_two_chunks = refl

-- the row in front of a chunk that isn't there stays
row_before_no_chunk : rows_in no_chunk (3 ∷ 4 ∷ 4 ∷ 5 ∷ 2 ∷ 1 ∷ 3 ∷ 2 ∷ [])
    ≡ record { items = row_at 68 (Some 5) 10 ∷ []; fault = Some APART }
unfolding all_items
row_before_no_chunk = refl

-- an inlined function that the module doesn't list
no_rows : rows_by None (file_at_start 0 ∷ []) no_chunk 64 two_annotations ≡ record { items = []; fault = None }
no_rows = refl

-- a module that lists the inlined function, with its file
abbrev listing : ModuleCode
listing = record {
  files = file_at_start 0 ∷ file_at_start 24 ∷ [];
  sources = λ id. Some (record { file = 24; line = 10 });
}

-- S_GPROC32 of a function at 64 of the first section: pParent, pEnd, pNext, len 26, DbgStart, DbgEnd, typind, off, seg,
-- flags, and the name
abbrev function : List ℕ
function =
    39 ∷ 0 ∷ 16 ∷ 17 ∷ [] ++ small 0 ++ small 0 ++ small 0 ++ small 26 ++ small 4 ++ small 21 ++ small 3 ++ small 64
    ++ short 1 ++ 0 ∷ [] ++ codes "f" ++ 0 ∷ []

-- S_SEPCODE of that function: pParent, pEnd, length 9, scf, off, offParent 64, sect and sectParent 1
abbrev chunk : ℕ → ℕ → List ℕ
chunk section offset =
    30 ∷ 0 ∷ 50 ∷ 17 ∷ [] ++ small 0 ++ small 0 ++ small 9 ++ small 0 ++ small offset ++ small 64 ++ short section
    ++ short 1

-- S_SEPCODE of another function, at 32
abbrev chunk_of_another : List ℕ
chunk_of_another =
    30 ∷ 0 ∷ 50 ∷ 17 ∷ [] ++ small 0 ++ small 0 ++ small 9 ++ small 0 ++ small 96 ++ small 32 ++ short 1 ++ short 1

-- S_INLINESITE: pParent, pEnd, inlinee, ChangeCodeOffsetBase of a chunk, ChangeCodeOffset by 4 and ChangeCodeLength of 2
abbrev site : ℕ → List ℕ
site number = 20 ∷ 0 ∷ 77 ∷ 17 ∷ [] ++ small 0 ++ small 0 ++ small 5 ++ 2 ∷ number ∷ 3 ∷ 4 ∷ 4 ∷ 2 ∷ []

-- the site, with these rows
abbrev site_with : Read InlineRow → Symbol
site_with rows = record {
  raw_kind = 0x114d;
  content = Some (InlineSite (record { inlinee = record { 0 = 5 }; end = record { 0 = 0 }; rows = rows }));
}

-- the second chunk of its function, after one of another function
second_chunk : slice_get (module_symbols listing 4 (function ++ site 2 ++ chunk_of_another ++ chunk 1 128 ++ chunk 1 160)).items 1
    ≡ Some (site_with (record { items = row_at 164 (Some 2) 10 ∷ []; fault = None }))
unfolding all_items
second_chunk = refl

-- a site in the second chunk goes on in the first one
from_the_second_chunk : slice_get (module_symbols listing 4 (function ++ chunk 1 128 ++ chunk 1 160 ++ site 1)).items 3
    ≡ Some (site_with (record { items = row_at 132 (Some 2) 10 ∷ []; fault = None }))
unfolding all_items
from_the_second_chunk = refl

-- a third chunk that there isn't, and a chunk in another section than the site's code
no_third_chunk : slice_get (module_symbols listing 4 (function ++ site 3 ++ chunk 1 128 ++ chunk 1 160)).items 1
    ≡ Some (site_with (record { items = []; fault = Some APART }))
unfolding all_items
no_third_chunk = refl

in_another_section : slice_get (module_symbols listing 4 (function ++ site 1 ++ chunk 2 128)).items 1
    ≡ Some (site_with (record { items = []; fault = Some APART }))
unfolding all_items
in_another_section = refl
