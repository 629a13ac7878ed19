-- The rows of an inlined body, by its annotations in order.
use Rattle.std.specs.Prelude.{ℕ, ◌+◌, ◌-◌, ◌/◌, ◌%◌, ◌^◌, ◌==◌, Bool, true, false, nat_le, List, [], ◌∷◌, ◌++◌}
use Rattle.std.specs.Prelude.{Option, Some, None, option_to_list, option_map, if◌then◌else◌}
use Rattle.std.specs.Option.{option_or}
use Rattle.pdb_records.specs.declared.symbols.InlineRow.{InlineRow}
use Rattle.pdb_codeview.specs.declared.annotations.Annotation.{Annotation}
use Rattle.pdb_codeview.specs.declared.annotations.Annotation.TheVariants.{Start, Advance, Chunk, Length, File, Line}
use Rattle.pdb_codeview.specs.declared.annotations.Annotation.TheVariants.{AdvanceAndLine, LengthAndAdvance, Other}
use Rattle.pdb_codeview.specs.declared.annotation_rows.RowPosition.{RowPosition}

-- a sum modulo 2 ^ 32
abbrev pub sum_of : ℕ → ℕ → ℕ
sum_of a b = (a + b) % 2 ^ 32

-- the line after a change. The lowest bit of the change is its sign: an even change adds half of it, an odd one
-- subtracts half of it
abbrev pub moved_line : ℕ → ℕ → ℕ
moved_line line change = if change % 2 == 0 then sum_of line (change / 2) else sum_of line (2 ^ 32 - change / 2)

-- the position after an annotation. CodeOffset (Start) counts from the start of the code that has the site.
-- ChangeCodeOffset (Advance), ChangeCodeLength (Length), ChangeCodeOffsetAndLineOffset (AdvanceAndLine) and the offset
-- of ChangeCodeLengthAndCodeOffset (LengthAndAdvance) count from the offset before. ChangeFile (File) and
-- ChangeLineOffset (Line) don't move the offset. ChangeCodeOffsetBase (Chunk) moves to the start of a chunk, from which
-- later offsets count
abbrev pub position_after : Annotation → RowPosition → RowPosition
position_after (Start n) p = record p { offset = sum_of p.start n }
position_after (Advance n) p = record p { offset = sum_of p.offset n }
position_after (Length n) p = record p { offset = sum_of p.offset n }
position_after (File f) p = record p { file = f }
position_after (Line c) p = record p { line = moved_line p.line c }
position_after (AdvanceAndLine n c) p = record p { offset = sum_of p.offset n; line = moved_line p.line c }
position_after (LengthAndAdvance l n) p = record p { offset = sum_of p.offset n }
position_after (Chunk s) p = record p { start = s; offset = s }
position_after Other p = p

-- only ChangeCodeOffset, ChangeCodeOffsetAndLineOffset and ChangeCodeLengthAndCodeOffset start a row
abbrev pub starts_row : Annotation → Bool
starts_row (Advance n) = true
starts_row (AdvanceAndLine n c) = true
starts_row (LengthAndAdvance l n) = true
starts_row a = false

-- the length that the annotation has for the row that it starts; only ChangeCodeLengthAndCodeOffset has one
abbrev pub own_length : Annotation → Option ℕ
own_length (LengthAndAdvance l n) = Some l
own_length a = None

-- the row that an annotation starts, with the position after it
abbrev pub new_row : Annotation → RowPosition → InlineRow
new_row a p =
    record { offset = p.offset; length = own_length a; file_index = record { 0 = p.file }; line_start = p.line }

-- the distance from one offset to another; absent if the other is lower
abbrev pub distance : ℕ → ℕ → Option ℕ
distance from to = if nat_le from to then Some (to - from) else None

-- a row that gets this length if it has none
abbrev pub with_length : Option ℕ → InlineRow → InlineRow
with_length length row = record row { length = option_or row.length length }

-- the row before one that starts at this offset; without a length of its own it ends there
abbrev pub closed : ℕ → InlineRow → InlineRow
closed offset row = with_length (distance row.offset offset) row

-- the last row, which gets the length of a ChangeCodeLength annotation if it has none
abbrev pub lengthened : Annotation → Option InlineRow → Option InlineRow
lengthened (Length n) last = option_map (with_length (Some n)) last
lengthened a last = last

-- whether the code continues elsewhere: at ChangeCodeOffsetBase, which no row spans
abbrev pub leaves_code : Annotation → Bool
leaves_code (Chunk s) = true
leaves_code a = false

-- the rows of the remaining annotations; the last row stays open until another row starts, the code continues
-- elsewhere, or the annotations end
abbrev pub rows_from : RowPosition → Option InlineRow → List Annotation → List InlineRow
rows_from position last [] = option_to_list last
rows_from position last (a ∷ annotations) =
    if starts_row a then
    option_to_list (option_map (closed (position_after a position).offset) last)
    ++ rows_from (position_after a position) (Some (new_row a (position_after a position))) annotations
    else if leaves_code a then option_to_list last ++ rows_from (position_after a position) None annotations
    else rows_from (position_after a position) (lengthened a last) annotations
