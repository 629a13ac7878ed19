-- The STACK WIN records of a program for x86, by its PDB file's frame data and FPO data.
use Rattle.std.specs.Prelude.{ℕ, ◌+◌, ◌^◌, ◌==◌, ◌&&◌, Bool, nat_le, nat_lt, List, [], ◌∷◌, ◌++◌, drop, length, take}
use Rattle.std.specs.Prelude.{Option, Some, None, Result, Ok, Err, if◌then◌else◌}
use Rattle.std.specs.Borrow.{Bor}
use Rattle.std.specs.List.{list_all}
use Rattle.std.specs.Str.{is_utf8}
use Rattle.pdb_records.specs.Readings.{Read}
use Rattle.pdb_records.specs.declared.error.StreamError.{StreamError}
use Rattle.pdb_msf.specs.Bytes.{text_in}
use Rattle.pdb_msf.specs.Msf.{Msf}
use Rattle.pdb_msf.specs.Readings.{nothing_read}
use Rattle.pdb_tables.specs.declared.segment.Segment.{Segment}
use Rattle.pdb_frame_data.specs.FpoData.{fpo_data_list}
use Rattle.pdb_frame_data.specs.FrameData.{frame_data_list}
use Rattle.pdb_frame_data.specs.FrameStreams.{frame_stream, program_strings}
use Rattle.pdb_frame_data.specs.ParameterSizes.{parameter_sizes}
use Rattle.pdb_frame_data.specs.StackWinText.{fpo_text, frame_data_text}
use Rattle.pdb_frame_data.specs.declared.fpo_data.FpoData.{FpoData}
use Rattle.pdb_frame_data.specs.declared.frame_data.FrameData.{FrameData}
use Rattle.pdb_frame_data.specs.declared.omitted_frame_data.OmittedFrameData.{OmittedFrameData}
use Rattle.pdb_frame_data.specs.declared.omitted_frame_data.FrameDataError.{FrameDataError}
use Rattle.pdb_frame_data.specs.declared.omitted_frame_data.FrameDataError.TheVariants.{BadProgram, Empty, LongProgram, NoProgram, TooLarge}

-- the records of a program: their text, the entries without a record, why frame data and FPO data end early, and the
-- parameter sizes of code
pub record Records : Type 0 where
  pub text : List ℕ
  pub left_out : List OmittedFrameData
  pub frame_data_fault : Option StreamError
  pub fpo_fault : Option StreamError
  pub parameter_sizes : List (Segment ℕ)

-- the entries of a stream; if it can't be read, none, with the stream's fault
abbrev pub entries_of : {A : Type 0} → (List ℕ → Read A) → Result (List ℕ) StreamError → Read A
entries_of entries (Ok bytes) = entries bytes
entries_of entries (Err error) = nothing_read (Some error)

-- why code with this address and size has no record: it is empty, or reaches past 32 bits
abbrev pub code_fault : ℕ → ℕ → Option FrameDataError
code_fault rva size =
    if size == 0 then Some Empty else if nat_lt (2 ^ 32) (rva + size) then Some TooLarge else None

-- whether a byte is no control character
abbrev pub is_printed : ℕ → Bool
is_printed byte = nat_le 0x20 byte

-- bytes as a text of one line; an error if they have control characters or aren't UTF-8
abbrev pub text_of : List ℕ → Result (List ℕ) FrameDataError
text_of bytes = if list_all is_printed bytes && is_utf8 bytes then Ok bytes else Err BadProgram

-- the most bytes of a program string, with its zero. Many entries may name one string, so a long one would make the
-- records far larger than the file
abbrev pub most_program : ℕ
most_program = 4096

-- the program before a zero among the first bytes; without a zero it is too long, or missing
abbrev pub program_by : List ℕ → Option (List ℕ) → Result (List ℕ) FrameDataError
program_by rest None = if nat_lt (length rest) most_program then Err NoProgram else Err LongProgram
program_by rest (Some bytes) = text_of bytes

-- the program at the start of these bytes
abbrev pub program_in : List ℕ → Result (List ℕ) FrameDataError
program_in rest = program_by rest (text_in (take most_program rest))

-- a program, unless the code has no record
abbrev pub unless_refused : Option FrameDataError → Result (List ℕ) FrameDataError → Result (List ℕ) FrameDataError
unless_refused None program = program
unless_refused (Some why) program = Err why

-- the program of frame data: the zero-terminated text at its offset, which counts from after the first twelve bytes of
-- the strings
abbrev pub frame_program : List ℕ → FrameData → Result (List ℕ) FrameDataError
frame_program strings entry =
    unless_refused (code_fault entry.rva entry.size) (program_in (drop (12 + entry.program) strings))

-- the text in a result, as bytes
abbrev pub text_seen : Result (Bor (List ℕ)) FrameDataError → Result (List ℕ) FrameDataError
text_seen (Ok text) = Ok text.now
text_seen (Err why) = Err why

-- the records, with one more entry left out
abbrev pub leave_out : ℕ → FrameDataError → Records → Records
leave_out rva why r = record r { left_out = r.left_out ++ record { rva = rva; why = why } ∷ [] }

-- the records with the text of one more record; without a program its entry is left out
abbrev pub add : ℕ → Result (List ℕ) FrameDataError → (List ℕ → List ℕ) → Records → Records
add rva (Ok program) text r = record r { text = r.text ++ text program }
add rva (Err why) text r = leave_out rva why r

-- the records with one more record of frame data
abbrev pub add_frame_data : List ℕ → FrameData → Records → Records
add_frame_data strings entry r = add entry.rva (frame_program strings entry) (frame_data_text entry) r

-- the records with one more record of FPO data, which has no program
abbrev pub add_fpo : FpoData → Records → Records
add_fpo entry r = add entry.rva (unless_refused (code_fault entry.rva entry.size) (Ok [])) (λ program. fpo_text entry) r

-- the records with those of frame data
abbrev pub with_frame_data : List ℕ → List FrameData → Records → Records
with_frame_data strings [] r = r
with_frame_data strings (entry ∷ entries) r = with_frame_data strings entries (add_frame_data strings entry r)

-- the records with those of FPO data
abbrev pub with_fpo : List FpoData → Records → Records
with_fpo [] r = r
with_fpo (entry ∷ entries) r = with_fpo entries (add_fpo entry r)

-- the empty records, before any record is added
abbrev pub no_records : Read FrameData → Read FpoData → Records
no_records frame_data fpo = record {
  text = [];
  left_out = [];
  frame_data_fault = frame_data.fault;
  fpo_fault = fpo.fault;
  parameter_sizes = parameter_sizes fpo.items frame_data.items;
}

-- the records of frame data and FPO data that were read
abbrev pub records_of : Read FrameData → Read FpoData → List ℕ → Records
records_of frame_data fpo strings =
    with_fpo fpo.items (with_frame_data strings frame_data.items (no_records frame_data fpo))

-- the records by the streams of frame data, of FPO data, and of program strings
abbrev pub records_by : Result (List ℕ) StreamError → Result (List ℕ) StreamError → List ℕ → Records
records_by frame_data fpo strings =
    records_of (entries_of frame_data_list frame_data) (entries_of fpo_data_list fpo) strings

-- the records of a file: those of its frame data, and after them those of its FPO data
unfoldable pub stack_win : Msf → Records
stack_win msf = records_by (frame_stream msf 9) (frame_stream msf 0) (program_strings msf)
