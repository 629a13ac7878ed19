-- The records that a reader is to find in a symbol file.
use Rattle.std.specs.Prelude.{ℕ, ◌+◌, ◌==◌, ◌||◌, List, [], ◌∷◌, ◌++◌, map, Option, Some, None, if◌then◌else◌}
use Rattle.std.specs.Str.{chars, encode_utf8_all}
use Rattle.pdb_tables.specs.InOrder.{in_order}
use Rattle.pdb_breakpad.specs.RecordTypes.{FunctionRecords, InlineRecord, Numbers, SourceLocation, Span}
use Rattle.pdb_breakpad.specs.FunctionTexts.{inline_before, inline_records_from, size_between}
use Rattle.pdb_breakpad.specs.ShownFrames.{own_name}
use Rattle.pdb_symbol_file_laws.specs.SymbolTextReader.{SymbolLine, File, InlineOrigin, Func, Public, Inline, CodeLine}

-- a character of a name on one line: a line break becomes a space
abbrev pub without_break : ℕ → ℕ
without_break c = if (c == 10) || (c == 13) then 32 else c

-- a name on one line
unfoldable pub on_one_line : List ℕ → List ℕ
on_one_line name = encode_utf8_all (map without_break (chars name))

-- the records of names by their numbers; the first name has this number
abbrev pub numbered : (ℕ → List ℕ → SymbolLine) → ℕ → List (List ℕ) → List SymbolLine
numbered kind number [] = []
numbered kind number (name ∷ names) = kind number (on_one_line name) ∷ numbered kind (number + 1) names

-- the records of files, and those of inlined functions' names, by their numbers
abbrev pub names_read : Numbers → List SymbolLine
names_read numbers = numbered File 0 numbers.files ++ numbered InlineOrigin 0 numbers.origins

-- the record of a function; one with an unknown end has no size
abbrev pub head_read : Option ℕ → ℕ → ℕ → List ℕ → SymbolLine
head_read (Some end) start last name = Func start (size_between start last) name
head_read None start last name = Public start name

-- the record of an inlined call
abbrev pub inline_read : InlineRecord → SymbolLine
inline_read inlined =
    Inline inlined.level inlined.span.content.place.line inlined.span.content.place.file inlined.span.content.origin
    inlined.span.start (size_between inlined.span.start inlined.span.last)

-- the record of a line
abbrev pub line_read : Span SourceLocation → SymbolLine
line_read span = CodeLine span.start (size_between span.start span.last) span.content.line span.content.file

-- the records of a function: its own, those of its inlined calls sorted by start, and those of its lines
abbrev pub function_read : FunctionRecords → List SymbolLine
function_read records =
    head_read records.found.end_rva records.start records.last (on_one_line (own_name records.found.frames))
    ∷ (map inline_read (in_order inline_before (inline_records_from 0 records.inlines)) ++ map line_read records.lines)
