-- The ends of a run of the program.
use Rattle.std.specs.Prelude.{◌≡◌, ℕ, List, Result, Ok, Err}
use Rattle.pdb_records.specs.Records.{Records}
use Rattle.pdb_json_values.specs.declared.record_fault.RecordFault.{RecordFault}
use Rattle.pdb_json_values.specs.RecordFault.{Fault, Agrees}
use Rattle.pdb_report_lib.specs.declared.reports.Command.{Command}
use Rattle.pdb_report_lib.specs.declared.reports.ReportFault.{ReportFault}
use Rattle.pdb_report_lib.specs.declared.reports.ReportFault.TheVariants.{Lookup, Write}
use Rattle.pdb_report_lib.specs.declared.command_error.CommandError.{CommandError}
use Rattle.pdb_report_lib.specs.declared.command_error.CommandError.TheVariants.{Refused, CannotWrite}
use Rattle.pdb_report_lib.specs.declared.command_error.CommandError.TheVariants as stop
use Rattle.pdb_report_lib.specs.Sinks.{SinkState}
use Rattle.pdb_report_lib.specs.FileReports.{opened, TakesTexts, EndsOver}

-- the exit status of a run that ends early: 1 if the records are refused or memory ran out, otherwise 2
abbrev pub status_of : CommandError → ℕ
status_of (Refused error) = 1
status_of other = 2

-- the error of a run whose report has this fault
abbrev pub command_error_of : ReportFault → CommandError
command_error_of (Lookup error) = Refused error
command_error_of Write = CannotWrite

-- a run over records ends early: they are refused or memory ran out, or the sink refused a text
abbrev pub StopsOver : Command → List ℕ → Records → SinkState → SinkState → CommandError → Type 0
StopsOver command addresses records before after (Refused error) =
    EndsOver command addresses (opened records) before after (Lookup error)
StopsOver command addresses records before after CannotWrite =
    EndsOver command addresses (opened records) before after Write
StopsOver command addresses records before after other = ⊥

-- a run reports that a file has no records, with the file's path and the fault; the sink is unchanged
abbrev pub StopsAtFault : List ℕ → RecordFault → SinkState → SinkState → CommandError → Type 0
StopsAtFault path fault before after (stop.Records shown given) = (shown.now ≡ path) × (given ≡ fault)
    × (after ≡ before)
StopsAtFault path fault before after other = ⊥

-- the end of a run over the result of reading the file at a path: the records, or the fault in the file
abbrev pub Ends : {A : Type 0} → List ℕ → Command → List ℕ → Result Records RecordFault
    → SinkState → SinkState → Result A CommandError → Type 0
Ends path command addresses (Ok records) before after (Ok done) =
    TakesTexts command addresses (opened records) before after
Ends path command addresses (Ok records) before after (Err why) = StopsOver command addresses records before after why
Ends path command addresses (Err fault) before after (Ok done) = ⊥
Ends path command addresses (Err fault) before after (Err why) = StopsAtFault path fault before after why

-- the end of a run over the bytes of a file and its module files: that over the records in them, except after an
-- allocation failure
pub record EndsOverFile {A : Type 0} (path : List ℕ) (command : Command) (addresses : List ℕ)
    (held : Result Records Fault) (before after : SinkState) (result : Result A CommandError) : Type 0 where
  pub read : Result Records RecordFault
  pub is_held : Agrees read held
  pub ends : Ends path command addresses read before after result
