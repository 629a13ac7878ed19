-- Inline sites: the rows of an inlined body. They count lines from the start of the inlined function.
use Rattle.std.specs.Prelude.{ℕ, ◌-◌, ◌^◌, List, map, Option, Some, None}
use Rattle.std.specs.BTreeMap.{get}
use Rattle.std.specs.Option.{unwrap_or}
use Rattle.std.specs.Ordering.{nat_cmp}
use Rattle.pdb_records.specs.Readings.{Read}
use Rattle.pdb_records.specs.declared.lines.FileIndex.{FileIndex}
use Rattle.pdb_records.specs.declared.symbols.InlineRow.{InlineRow}
use Rattle.pdb_msf.specs.Readings.{nothing_read}
use Rattle.pdb_codeview.specs.declared.files.FileEntry.{FileEntry}
use Rattle.pdb_codeview.specs.declared.annotation_rows.RowPosition.{RowPosition}
use Rattle.pdb_codeview.specs.declared.inline_sites.CodeRecords.{CodeRecords}
use Rattle.pdb_codeview.specs.declared.inlinees.InlineeSource.{InlineeSource}
use Rattle.pdb_codeview.specs.Annotations.{annotations}
use Rattle.pdb_codeview.specs.Files.{named_file}
use Rattle.pdb_codeview.specs.AnnotationRows.{rows_from}

-- what inline sites refer to: the module's files, and the file and line where each inlined function starts
pub record ModuleCode : Type 0 where
  pub files : List FileEntry
  pub sources : ℕ → Option InlineeSource

-- the files and inlined functions in the records of a module's code
abbrev pub code_of : CodeRecords → ModuleCode
code_of code = record { files = code.files.entries.items; sources = λ id. get nat_cmp code.inlinees.sources id }

-- the index that no file has: the greatest four-byte number
abbrev pub no_file : FileIndex
no_file = record { 0 = 2 ^ 32 - 1 }

-- the index of the file whose entry starts at this offset, or `no_file`
abbrev pub file_at : List FileEntry → ℕ → FileIndex
file_at entries start = unwrap_or (named_file start entries) no_file

-- a row with the index of its file instead of the offset of the file's entry
abbrev pub named_row : List FileEntry → InlineRow → InlineRow
named_row entries row = record row { file_index = file_at entries row.file_index.0 }

-- the first position for the annotations of a site: the start of the code that has the site, and the file and line of
-- the inlined function
abbrev pub first_position : InlineeSource → ℕ → RowPosition
first_position source start = record { start = start; offset = start; file = source.file; line = source.line }

-- the rows by the annotations of a site, in code that starts at this offset; `chunk` gives the starts of the function's
-- chunks. There are no rows if the module doesn't list the inlined function
abbrev pub rows_by : Option InlineeSource → List FileEntry → (ℕ → Option ℕ) → ℕ → List ℕ → Read InlineRow
rows_by None entries chunk start bytes = nothing_read None
rows_by (Some source) entries chunk start bytes = record {
  items = map (named_row entries) (rows_from (first_position source start) None (annotations chunk bytes).items);
  fault = (annotations chunk bytes).fault;
}

-- the rows of a site of this inlinee, by its annotations, in code that starts at this offset; `chunk` gives the starts
-- of the function's chunks
abbrev pub site_rows : ModuleCode → (ℕ → Option ℕ) → ℕ → ℕ → List ℕ → Read InlineRow
site_rows code chunk inlinee start bytes = rows_by (code.sources inlinee) code.files chunk start bytes
