-- A module's stream: its symbols, and the subsections of lines, files, inlinees, imports and exports.
use Rattle.std.specs.Prelude.{ℕ, ◌==◌, nat_lt, List, [], ◌∷◌, take, drop, filter, find, length, map}
use Rattle.std.specs.Prelude.{Option, Some, None, option_map, Result, Ok, Err, if◌then◌else◌}
use Rattle.std.specs.Option.{option_map_or, option_or}
use Rattle.pdb_records.specs.Imports.{Imported}
use Rattle.pdb_records.specs.LinePrograms.{Lines}
use Rattle.pdb_records.specs.Readings.{Read}
use Rattle.pdb_records.specs.declared.error.StreamError.{StreamError}
use Rattle.pdb_records.specs.declared.modules.Inlinee.{Inlinee}
use Rattle.pdb_records.specs.declared.modules.ModuleInfo.{ModuleInfo}
use Rattle.pdb_records.specs.declared.symbols.Symbol.{Symbol}
use Rattle.pdb_msf.specs.declared.faults.TheConstants.{CUT, UNKNOWN_VERSION}
use Rattle.pdb_msf.specs.Faults.{◌>>=◌}
use Rattle.pdb_msf.specs.ItemLists.{all_items, first_padded}
use Rattle.pdb_msf.specs.NumberLists.{number}
use Rattle.pdb_msf.specs.Readings.{with_fault, nothing_read}
use Rattle.pdb_codeview.specs.declared.files.FileEntry.{FileEntry}
use Rattle.pdb_codeview.specs.declared.line_subsections.LineSubsection.{LineSubsection}
use Rattle.pdb_codeview.specs.CrossModules.{exports, imports}
use Rattle.pdb_codeview.specs.Files.{all_entries}
use Rattle.pdb_codeview.specs.InlineSites.{ModuleCode}
use Rattle.pdb_codeview.specs.Inlinees.{all_inlinees, inlinee, inlinee_source}
use Rattle.pdb_codeview.specs.LineProgram.{program_entries}
use Rattle.pdb_codeview.specs.LineSubsections.{line_subsection}
use Rattle.pdb_codeview.specs.ProcedureSpans.{symbol_spans}
use Rattle.pdb_codeview.specs.SymbolContents.{module_symbols}
use Rattle.pdb_dbi.specs.declared.module_substream.ModuleStream.{ModuleStream}
use Rattle.pdb_dbi.specs.Substreams.{SubstreamBytes, substream}
use Rattle.pdb_container.specs.SubsectionKinds.{debug_s_crossscopeexports, debug_s_crossscopeimports}
use Rattle.pdb_container.specs.SubsectionKinds.{debug_s_filechksms, debug_s_inlineelines, debug_s_lines}

-- a subsection: its kind, and its content
pub record SubsectionBytes : Type 0 where
  pub kind : ℕ
  pub content : List ℕ

-- the subsection of this kind whose content is the first `size` bytes, and the bytes after it
abbrev pub subsection_of : ℕ → ℕ → List ℕ → Result (SubsectionBytes × List ℕ) StreamError
subsection_of kind size bytes =
    if nat_lt (length bytes) size then Err CUT else
    Ok (record { kind = kind; content = take size bytes }, drop size bytes)

-- the first subsection, and the bytes after it. A subsection has its kind in four bytes, the size of its content in
-- four, and the content
abbrev pub first_subsection : List ℕ → Result (SubsectionBytes × List ℕ) StreamError
first_subsection bytes =
    if nat_lt (length bytes) 4 then Err CUT else
    if nat_lt (length (drop 4 bytes)) 4 then Err CUT else
    subsection_of (number bytes) (number (drop 4 bytes)) (drop 4 (drop 4 bytes))

-- the subsections of a substream (C13), each padded to a multiple of four bytes
abbrev pub subsections : SubstreamBytes → Read SubsectionBytes
subsections substream = with_fault substream.fault (all_items (first_padded first_subsection) substream.bytes)

-- the contents of all subsections of this kind
abbrev pub all_of_kind : ℕ → List SubsectionBytes → List (List ℕ)
all_of_kind kind list = map (λ s. s.content) (filter (λ s. s.kind == kind) list)

-- the content of the first subsection of this kind, if there is one
abbrev pub first_of_kind : ℕ → List SubsectionBytes → Option (List ℕ)
first_of_kind kind list = option_map (λ s. s.content) (find (λ s. s.kind == kind) list)

-- the content that was found; without one, no bytes, or the fault that may have hidden it
abbrev pub found_or_empty : Option StreamError → Option (List ℕ) → Result (List ℕ) StreamError
found_or_empty fault (Some content) = Ok content
found_or_empty None None = Ok []
found_or_empty (Some error) None = Err error

-- the content of the first subsection of this kind; no bytes if all subsections were read and none has this kind
abbrev pub first_or_empty : ℕ → Read SubsectionBytes → Result (List ℕ) StreamError
first_or_empty kind list = found_or_empty list.fault (first_of_kind kind list.items)

-- the files of a module, by its subsections of files
abbrev pub files_of : Read SubsectionBytes → Read FileEntry
files_of list = all_entries (all_of_kind debug_s_filechksms list.items)

-- the functions that are inlined in a module's code, by its subsections of inlinees
abbrev pub inlinees_of : Read SubsectionBytes → Read Inlinee
inlinees_of list = with_fault list.fault (record {
  items = map inlinee (all_inlinees (all_of_kind debug_s_inlineelines list.items)).items;
  fault = (all_inlinees (all_of_kind debug_s_inlineelines list.items)).fault;
})

-- the files and inlined functions that a module's inline sites refer to
abbrev pub code_in : Read SubsectionBytes → ModuleCode
code_in list = record {
  files = (files_of list).items;
  sources = λ id. inlinee_source id (all_inlinees (all_of_kind debug_s_inlineelines list.items)).items;
}

-- the symbols of a module by their substream; empty bytes have none. Otherwise the bytes begin with the number 4
-- (CV_SIGNATURE_C13), the only form that is read
abbrev pub symbols_of_substream : ModuleCode → SubstreamBytes → Read Symbol
symbols_of_substream code substream =
    if length substream.bytes == 0 then nothing_read substream.fault else
    if nat_lt (length substream.bytes) 4 then nothing_read (Some CUT) else
    if number substream.bytes == 4 then with_fault substream.fault (module_symbols code 4 (drop 4 substream.bytes)) else
    nothing_read (Some UNKNOWN_VERSION)

-- all subsections of lines, by the module's files; the first faulty header makes the list an error
abbrev pub line_subsections : List FileEntry → List (List ℕ) → Result (List LineSubsection) StreamError
line_subsections files [] = Ok []
line_subsections files (bytes ∷ rest) = do
  first ← line_subsection files bytes
  others ← line_subsections files rest
  Ok (first ∷ others)

-- the line program of these entries and files
abbrev pub program_of : List FileEntry → List Symbol → List LineSubsection → Lines
program_of files symbols lines = record {
  entries = program_entries lines (symbol_spans symbols);
  files = map (λ entry. entry.info) files;
}

-- the line program of a module, by its subsections of lines, its files and its symbols. It is an error if the list of
-- subsections, a subsection of files, or the header of a subsection of lines has a fault
abbrev pub line_program : Read SubsectionBytes → List Symbol → Result Lines StreamError
line_program list symbols = option_map_or (λ error. Err error) (option_or list.fault (files_of list).fault) (do
  lines ← line_subsections (files_of list).items (all_of_kind debug_s_lines list.items)
  Ok (program_of (files_of list).items symbols lines))

-- the imports of a module, by its first subsection of imports
abbrev pub imports_of : Read SubsectionBytes → Result (List Imported) StreamError
imports_of list = first_or_empty debug_s_crossscopeimports list >>= imports

-- the exports of a module, by its first subsection of exports
abbrev pub exports_of : Read SubsectionBytes → Result (List (ℕ × ℕ)) StreamError
exports_of list = first_or_empty debug_s_crossscopeexports list >>= exports

-- the records of a module, by its symbols and its subsections
abbrev pub module_by : Read Symbol → Read SubsectionBytes → ModuleInfo
module_by symbols list = record {
  symbols = symbols;
  line_program = line_program list symbols.items;
  inlinees = inlinees_of list;
  imports = imports_of list;
  exports = exports_of list;
}

-- the records of a module, by the substreams of its symbols and of its subsections
abbrev pub module_in_parts : SubstreamBytes → SubstreamBytes → ModuleInfo
module_in_parts symbols lines = module_by (symbols_of_substream (code_in (subsections lines)) symbols) (subsections lines)

-- the records of a module in its stream: SymByteSize bytes of symbols, C11ByteSize bytes of older line records, which
-- are skipped, and C13ByteSize bytes of subsections
unfoldable pub module_in : ModuleStream → List ℕ → ModuleInfo
module_in place stream =
    module_in_parts (substream place.symbols stream)
    (substream place.lines (drop place.c11_lines (drop place.symbols stream)))
