-- Laws on the written records: they fit their types, and inlined calls ascend.
use Rattle.std.specs.Prelude.{ℕ, ◌≤◌, ◌<◌, ◌^◌, List, length}
use Rattle.std.specs.List.{All}
use Rattle.pdb_tables.specs.declared.segment.Segment.{Segment}
use Rattle.pdb_breakpad.specs.declared.address_spans.Span.{Span}
use Rattle.pdb_breakpad.specs.declared.function_records.FunctionRecords.{FunctionRecords}
use Rattle.pdb_breakpad.specs.declared.record_numbers.Numbers.{Numbers}
use Rattle.pdb_breakpad.specs.declared.inline_records.InlinedCall.{InlinedCall}
use Rattle.pdb_breakpad.specs.declared.numbered_code.SourceLocation.{SourceLocation}
use Rattle.pdb_breakpad.specs.AddressSpans.{Ascend}
use Rattle.pdb_breakpad.specs.FunctionTexts.{parameter_size}

-- the content of a span and its addresses fit their types
abbrev pub FitsSpan : {T : Type 0} → (T → Type 0) → Span T → Type 0
FitsSpan Fits span = (span.start < 2 ^ 32) × (span.last < 2 ^ 32) × Fits span.content

-- a place fits its type
abbrev pub FitsPlace : SourceLocation → Type 0
FitsPlace place = (place.file < 2 ^ 64) × (place.line < 2 ^ 32)

-- an inlined call fits its type
abbrev pub FitsCall : InlinedCall → Type 0
FitsCall call = FitsPlace call.place × (call.origin < 2 ^ 64)

-- all numbers of a function's records, and the size of its parameters, are within the ranges of their types
pub record FitTypes (parameters : List (Segment ℕ)) (records : FunctionRecords) : Type 0 where
  pub parameters_fit : parameter_size parameters records.start < 2 ^ 32
  pub start : records.start < 2 ^ 32
  pub last : records.last < 2 ^ 32
  pub levels : length records.inlines ≤ 2 ^ 64
  pub inlines : All (All (FitsSpan FitsCall)) records.inlines
  pub lines : All (FitsSpan FitsPlace) records.lines

-- names have numbers that are within the range of their type
abbrev pub FitNumbers : Numbers → Type 0
FitNumbers numbers = (length numbers.files ≤ 2 ^ 64) × (length numbers.origins ≤ 2 ^ 64)

-- the spans of each level of a function's inlined calls ascend, and no line ends before it begins
pub record InlinesAscend (records : FunctionRecords) : Type 0 where
  pub inlines : All Ascend records.inlines
  pub lines : All (λ span. span.start ≤ span.last) records.lines

-- the records of a function fit their types, and its inlined calls ascend
pub record AreReadable (parameters : List (Segment ℕ)) (records : FunctionRecords) : Type 0 where
  pub fit : FitTypes parameters records
  pub ascend : InlinesAscend records
