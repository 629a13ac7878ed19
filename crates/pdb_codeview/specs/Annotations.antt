-- Binary annotations: the list that maps the code of an inlined body to lines.
use Rattle.std.specs.Option.{ok_or, option_map_or}
use Rattle.std.specs.Prelude.{ℕ, ◌/◌, ◌%◌, ◌==◌, ◌&&◌, nat_le, List, [], drop, Option, Result, Ok, Err, if◌then◌else◌}
use Rattle.pdb_records.specs.Readings.{Read}
use Rattle.pdb_records.specs.declared.error.StreamError.{StreamError}
use Rattle.pdb_msf.specs.declared.faults.TheConstants.{APART, BAD_NUMBER}
use Rattle.pdb_msf.specs.Faults.{◌>>=◌}
use Rattle.pdb_msf.specs.ItemLists.{all_items}
use Rattle.pdb_codeview.specs.AnnotationKinds.{ba_op_change_code_length, ba_op_change_code_length_and_code_offset}
use Rattle.pdb_codeview.specs.AnnotationKinds.{ba_op_change_code_offset, ba_op_change_code_offset_and_line_offset}
use Rattle.pdb_codeview.specs.AnnotationKinds.{ba_op_change_code_offset_base, ba_op_change_column_end}
use Rattle.pdb_codeview.specs.AnnotationKinds.{ba_op_change_column_end_delta, ba_op_change_file}
use Rattle.pdb_codeview.specs.AnnotationKinds.{ba_op_change_line_end_delta, ba_op_change_line_offset}
use Rattle.pdb_codeview.specs.AnnotationKinds.{ba_op_code_offset, ba_op_invalid}
use Rattle.pdb_codeview.specs.Compressed.{compressed, width}
use Rattle.pdb_codeview.specs.declared.annotations.Annotation.{Annotation}
use Rattle.pdb_codeview.specs.declared.annotations.Annotation.TheVariants.{Advance, AdvanceAndLine, Chunk, File}
use Rattle.pdb_codeview.specs.declared.annotations.Annotation.TheVariants.{Length, LengthAndAdvance, Line, Other, Start}

-- the compressed number at the start of these bytes, or the fault that there is none
abbrev pub first_number : List ℕ → Result ℕ StreamError
first_number bytes = ok_or (compressed bytes) BAD_NUMBER

-- the bytes after the compressed number at their start
abbrev pub behind_number : List ℕ → List ℕ
behind_number bytes = drop (width bytes) bytes

-- the annotation of a ChangeCodeOffsetBase. Number 0 means the main code, where reading begins; for another number,
-- `chunk` gives the start of the chunk if it is known
abbrev pub of_chunk : (ℕ → Option ℕ) → ℕ → Result Annotation StreamError
of_chunk chunk number = if number == 0 then Ok Other else option_map_or (λ start. Ok (Chunk start)) (chunk number) (Err APART)

-- an annotation with one number, by its kind; `chunk` gives the start of each chunk. If code and line change together,
-- the lowest four bits are the change of the code offset and the others that of the line. Rows ignore ChangeColumnEnd
-- and the kinds from ChangeLineEndDelta to ChangeColumnEndDelta
abbrev pub of_one_number : (ℕ → Option ℕ) → ℕ → ℕ → Result Annotation StreamError
of_one_number chunk kind number =
    if kind == ba_op_code_offset then Ok (Start number) else
    if kind == ba_op_change_code_offset_base then of_chunk chunk number else
    if kind == ba_op_change_code_offset then Ok (Advance number) else
    if kind == ba_op_change_code_length then Ok (Length number) else
    if kind == ba_op_change_file then Ok (File number) else
    if kind == ba_op_change_line_offset then Ok (Line number) else
    if kind == ba_op_change_code_offset_and_line_offset then Ok (AdvanceAndLine (number % 16) (number / 16)) else
    if nat_le ba_op_change_line_end_delta kind && nat_le kind ba_op_change_column_end_delta then Ok Other else
    if kind == ba_op_change_column_end then Ok Other else
    Err BAD_NUMBER

-- the annotation with two numbers, ChangeCodeLengthAndCodeOffset: `length` is the first number, and the bytes begin
-- with the second, the offset. With the bytes after it
abbrev pub of_two_numbers : ℕ → List ℕ → Result (Annotation × List ℕ) StreamError
of_two_numbers length bytes = do
  offset ← first_number bytes
  Ok (LengthAndAdvance length offset, behind_number bytes)

-- the annotation of this kind, whose numbers are at the start of the bytes; and the bytes after it
abbrev pub annotation_of : (ℕ → Option ℕ) → ℕ → List ℕ → Result (Annotation × List ℕ) StreamError
annotation_of chunk kind bytes = do
  number ← first_number bytes
  if kind == ba_op_change_code_length_and_code_offset then of_two_numbers number (behind_number bytes) else (do
    annotation ← of_one_number chunk kind number
    Ok (annotation, behind_number bytes))

-- the first annotation, which is its kind and then its numbers; and the bytes after it. The kind Invalid ends the list,
-- and rows ignore it
abbrev pub first_annotation : (ℕ → Option ℕ) → List ℕ → Result (Annotation × List ℕ) StreamError
first_annotation chunk bytes = do
  kind ← first_number bytes
  if kind == ba_op_invalid then Ok (Other, []) else annotation_of chunk kind (behind_number bytes)

-- all annotations of these bytes
abbrev pub annotations : (ℕ → Option ℕ) → List ℕ → Read Annotation
annotations chunk bytes = all_items (first_annotation chunk) bytes
