-- The names for the numbers in the records of code.
use Rattle.std.specs.Prelude.{◌≡◌, List, Option, Some, None, slice_get}
use Rattle.std.specs.List.{AllZip}
use Rattle.pdb_breakpad.specs.declared.inline_records.InlinedCall.{InlinedCall}
use Rattle.pdb_breakpad.specs.declared.numbered_code.NumberedCode.{NumberedCode}
use Rattle.pdb_breakpad.specs.declared.numbered_code.SourceLocation.{SourceLocation}
use Rattle.pdb_breakpad.specs.declared.record_numbers.Numbers.{Numbers}
use Rattle.pdb_breakpad.specs.ShownNames.{FrameText}
use Rattle.pdb_breakpad.specs.RecordNumbers.{KeepsNames}
use Rattle.pdb_breakpad.specs.ShownFrames.{ShownCall, ShownPlace, calls_in, innermost_place}

-- a numbered place is this shown place: its file's number has the file's name, and the lines are the same
abbrev pub IsPlace : Numbers → SourceLocation → ShownPlace → Type 0
IsPlace numbers place shown = (slice_get numbers.files place.file ≡ Some shown.file) × (place.line ≡ shown.line)

-- an optional numbered place is this optional shown place
abbrev pub IsOptionalPlace : Numbers → Option SourceLocation → Option ShownPlace → Type 0
IsOptionalPlace numbers None None = Unit {0}
IsOptionalPlace numbers None (Some shown) = ⊥
IsOptionalPlace numbers (Some place) None = ⊥
IsOptionalPlace numbers (Some place) (Some shown) = IsPlace numbers place shown

-- a numbered inlined call is this shown call
abbrev pub IsCall : Numbers → InlinedCall → ShownCall → Type 0
IsCall numbers call shown =
    IsPlace numbers call.place shown.place × (slice_get numbers.origins call.origin ≡ Some shown.function)

-- numbered inlined calls are these shown calls, one by one
abbrev pub AreCalls : Numbers → List InlinedCall → List ShownCall → Type 0
AreCalls numbers calls shown = AllZip (IsCall numbers) calls shown

-- the numbered code of these frames, which are from outside to inside
abbrev pub IsCode : Numbers → NumberedCode → List FrameText → Type 0
IsCode numbers code frames =
    AreCalls numbers code.calls.items (calls_in frames) × IsOptionalPlace numbers code.place (innermost_place frames)

-- each number of a file and each of an inlined function keeps its name
abbrev pub KeepsAllNames : Numbers → Numbers → Type 0
KeepsAllNames old new = KeepsNames old.files new.files × KeepsNames old.origins new.origins
