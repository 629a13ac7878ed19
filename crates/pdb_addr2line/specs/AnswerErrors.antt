-- The errors that an answer may have instead of frames or a text.
use Rattle.std.specs.Prelude.{⊤, Result, Ok, Err}
use Rattle.pdb_errors.specs.declared.error.Error.{Error}
use Rattle.pdb_errors.specs.declared.error.Error.TheVariants.{PdbError, ExtendedModuleInfoUnsuccessful}
use Rattle.pdb_errors.specs.declared.error.Error.TheVariants.{ProcedureLinesUnsuccessful}
use Rattle.pdb_errors.specs.declared.error.Error.TheVariants.{ProcedureInlineRangesUnsuccessful}
use Rattle.pdb_addr2line.specs.Calls.{AnswerView, FramesView, TextView}
use Rattle.pdb_laws.specs.PrintErrors.{IsPrintError}

-- an error in the records of code, or of a part of them that failed before
abbrev pub IsCodeError : Error → Type 0
IsCodeError (PdbError e) = ⊤
IsCodeError ExtendedModuleInfoUnsuccessful = ⊤
IsCodeError ProcedureLinesUnsuccessful = ⊤
IsCodeError ProcedureInlineRangesUnsuccessful = ⊤
IsCodeError other = ⊥

-- an answer, or such an error
abbrev pub IsRefusedByCode : {A : Type 0} → Result A Error → Type 0
IsRefusedByCode (Ok answer) = ⊤
IsRefusedByCode (Err e) = IsCodeError e

-- an answer of frames has no error but one in the records of code; an answer of a text has no error but one of printing
abbrev pub HoldsErrorOfRecords : AnswerView → Type 0
HoldsErrorOfRecords (FramesView frames) = IsRefusedByCode frames
HoldsErrorOfRecords (TextView (Ok text)) = ⊤
HoldsErrorOfRecords (TextView (Err e)) = IsPrintError e
HoldsErrorOfRecords other = ⊤
