-- The types of a symbol file's records, under names for laws of other crates.
use Rattle.pdb_breakpad.specs.declared.address_spans.Span.{Span as DeclaredSpan}
use Rattle.pdb_breakpad.specs.declared.function_records.FunctionRecords.{FunctionRecords as DeclaredFunctionRecords}
use Rattle.pdb_breakpad.specs.declared.inline_records.InlinedCall.{InlinedCall as DeclaredInlinedCall}
use Rattle.pdb_breakpad.specs.declared.inline_records.InlineRecord.{InlineRecord as DeclaredInlineRecord}
use Rattle.pdb_breakpad.specs.declared.numbered_code.SourceLocation.{SourceLocation as DeclaredPlace}
use Rattle.pdb_breakpad.specs.declared.record_numbers.Numbers.{Numbers as DeclaredNumbers}

-- a run of addresses with their content
abbrev pub Span : Type 0 → Type 0
Span T = DeclaredSpan T

-- the records of a function, as far as its addresses were visited
abbrev pub FunctionRecords : Type 0
FunctionRecords = DeclaredFunctionRecords

-- a call that is replaced by the function's body
abbrev pub InlinedCall : Type 0
InlinedCall = DeclaredInlinedCall

-- an inlined call of a level, with the addresses that it covers
abbrev pub InlineRecord : Type 0
InlineRecord = DeclaredInlineRecord

-- a place in a source file
abbrev pub SourceLocation : Type 0
SourceLocation = DeclaredPlace

-- the numbers of files and functions in a symbol file
abbrev pub Numbers : Type 0
Numbers = DeclaredNumbers
