-- The text of functions' records.
use Rattle.std.specs.Prelude.{ℕ, ◌+◌, ◌-◌, ◌==◌, ◌||◌, List, [], ◌∷◌, ◌++◌, codes, false, map, encode_utf8}
use Rattle.std.specs.Prelude.{Option, Some, None, Bool, if◌then◌else◌}
use Rattle.std.specs.Fmt.{decimal, digits}
use Rattle.std.specs.List.{flat_map}
use Rattle.std.specs.Option.{unwrap_or}
use Rattle.std.specs.Ordering.{is_lt, nat_cmp, ordering_then}
use Rattle.std.specs.declared.cmp.Ordering.{Ordering}
use Rattle.std.specs.Str.{chars}
use Rattle.pdb_tables.specs.InOrder.{in_order}
use Rattle.pdb_tables.specs.Segments.{value_at}
use Rattle.pdb_tables.specs.declared.segment.Segment.{Segment}
use Rattle.pdb_breakpad.specs.declared.address_spans.Span.{Span}
use Rattle.pdb_breakpad.specs.declared.function_records.FunctionRecords.{FunctionRecords}
use Rattle.pdb_breakpad.specs.declared.inline_records.InlinedCall.{InlinedCall}
use Rattle.pdb_breakpad.specs.declared.inline_records.InlineRecord.{InlineRecord}
use Rattle.pdb_breakpad.specs.declared.numbered_code.SourceLocation.{SourceLocation}
use Rattle.pdb_breakpad.specs.ShownFrames.{own_name}

-- a number in hexadecimal digits
abbrev pub hexadecimal : ℕ → List ℕ
hexadecimal number = digits 16 false number

-- a character of a name: a line break is written as a space
abbrev pub name_character : ℕ → List ℕ
name_character c = if (c == 10) || (c == 13) then codes " " else encode_utf8 c

-- a text as a part of a line: a line break is written as a space
abbrev pub line_text : List ℕ → List ℕ
line_text text = flat_map name_character (chars text)

-- a name as the last word of a record, and the end of the line
unfoldable pub name_line : List ℕ → List ℕ
name_line name = line_text name ++ codes "\n"

-- the number of addresses from the first to the last, both included
abbrev pub size_between : ℕ → ℕ → ℕ
size_between first last = last - first + 1

-- the size in bytes of the parameters that the function takes from the stack: the value at its first address, or 0
abbrev pub parameter_size : List (Segment ℕ) → ℕ → ℕ
parameter_size parameters start = unwrap_or (value_at parameters start) 0

-- the start of a function's record, with the size of its parameters; a function with an unknown end has no size
abbrev pub function_head : ℕ → Option ℕ → ℕ → ℕ → List ℕ
function_head size (Some end) start last =
    codes "FUNC " ++ (hexadecimal start ++ (codes " " ++ (hexadecimal (size_between start last)
    ++ (codes " " ++ (hexadecimal size ++ codes " ")))))
function_head size None start last =
    codes "PUBLIC " ++ (hexadecimal start ++ (codes " " ++ (hexadecimal size ++ codes " ")))

-- the record of an inlined call: its level, the line and the file of the call, the function, and its address range
unfoldable pub inline_line : InlineRecord → List ℕ
inline_line inlined =
    codes "INLINE " ++ (decimal inlined.level
    ++ (codes " " ++ (decimal inlined.span.content.place.line
    ++ (codes " " ++ (decimal inlined.span.content.place.file
    ++ (codes " " ++ (decimal inlined.span.content.origin
    ++ (codes " " ++ (hexadecimal inlined.span.start
    ++ (codes " " ++ (hexadecimal (size_between inlined.span.start inlined.span.last) ++ codes "\n")))))))))))

-- the record of a line: its address range, its number, and its file
unfoldable pub line_line : Span SourceLocation → List ℕ
line_line span =
    hexadecimal span.start ++ (codes " " ++ (hexadecimal (size_between span.start span.last)
    ++ (codes " " ++ (decimal span.content.line ++ (codes " " ++ (decimal span.content.file ++ codes "\n"))))))

-- the inlined calls of levels from one on, level by level
abbrev pub inline_records_from : ℕ → List (List (Span InlinedCall)) → List InlineRecord
inline_records_from level [] = []
inline_records_from level (spans ∷ levels) =
    map (λ span. record { level = level; span = span }) spans ++ inline_records_from (level + 1) levels

-- the order of the records of two inlined calls: by start, and then from outside to inside
abbrev pub inline_cmp : InlineRecord → InlineRecord → Ordering
inline_cmp a b = ordering_then (nat_cmp a.span.start b.span.start) (nat_cmp a.level b.level)

-- whether the record of one inlined call comes before that of the other
abbrev pub inline_before : InlineRecord → InlineRecord → Bool
inline_before a b = is_lt (inline_cmp a b)

-- the records of a function's inlined calls
abbrev pub inline_lines : List (List (Span InlinedCall)) → List ℕ
inline_lines levels = flat_map inline_line (in_order inline_before (inline_records_from 0 levels))

-- the text of a function's records: the function, its inlined calls, and its lines. The parameter sizes are by address
abbrev pub function_text : List (Segment ℕ) → FunctionRecords → List ℕ
function_text parameters records =
    function_head (parameter_size parameters records.start) records.found.end_rva records.start records.last
    ++ (name_line (own_name records.found.frames)
    ++ (inline_lines records.inlines ++ flat_map line_line records.lines))
