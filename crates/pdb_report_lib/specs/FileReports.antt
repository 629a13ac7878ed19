-- A report over the records of a file.
use Rattle.std.specs.Prelude.{◌≡◌, ◌≢◌, ◌⊎◌, ℕ, List, [], Result, Ok, Err}
use Rattle.pdb_records.specs.Records.{Records}
use Rattle.pdb_errors.specs.declared.error.Error.{Error}
use Rattle.pdb_errors.specs.declared.error.Error.TheVariants.{OutOfMemory}
use Rattle.pdb_errors.specs.Outcomes.{unless}
use Rattle.pdb_addr2line.specs.ContextInputs.{ContextInputs}
use Rattle.pdb_addr2line.specs.ContextData.{records_refusal, info_at, default_flags, context_of}
use Rattle.pdb_report_lib.specs.declared.reports.Command.{Command}
use Rattle.pdb_report_lib.specs.declared.reports.ReportFault.{ReportFault}
use Rattle.pdb_report_lib.specs.declared.reports.ReportFault.TheVariants.{Lookup, Write}
use Rattle.pdb_report_lib.specs.Sinks.{SinkState}
use Rattle.pdb_report_lib.specs.Reports.{report_text, TakesText, EndsEarly}

-- the context of these records with the default flags, or why they are refused
abbrev pub opened : Records → Result (ContextInputs Records) Error
opened records = unless (records_refusal records) (context_of default_flags records)

-- why a report over records without failed parts ends early
abbrev pub EndsOverRecords : ContextInputs Records → Command → List ℕ → SinkState → SinkState → ReportFault → Type 0
EndsOverRecords inputs = EndsEarly (λ records index m. info_at records index) inputs []

-- a sink takes the text of a report by a plain scan of accepted records, without failed parts
abbrev pub TakesTexts : Command → List ℕ → Result (ContextInputs Records) Error → SinkState → SinkState → Type 0
TakesTexts command addresses (Ok inputs) before after =
    TakesText (report_text (λ records index m. info_at records index) inputs [] command addresses) before after
TakesTexts command addresses (Err error) before after = ⊥

-- a report over accepted records ends early
abbrev pub EndsAmid : Command → List ℕ → Result (ContextInputs Records) Error → SinkState → SinkState → ReportFault
    → Type 0
EndsAmid command addresses (Ok inputs) before after fault =
    EndsOverRecords inputs command addresses before after fault
EndsAmid command addresses (Err error) before after fault = ⊥

-- a report ends before its first text: the records are refused for this error, or memory ran out; the sink is unchanged
pub record EndsBefore (made : Result (ContextInputs Records) Error) (before after : SinkState)
    (error : Error) : Type 0 where
  pub refused : error ≢ OutOfMemory → made ≡ Err error
  pub same : after ≡ before

-- why a report over records ends early: before its first text, or while its texts are written
abbrev pub EndsOver : Command → List ℕ → Result (ContextInputs Records) Error → SinkState → SinkState → ReportFault
    → Type 0
EndsOver command addresses made before after (Lookup error) =
    EndsBefore made before after error ⊎ EndsAmid command addresses made before after (Lookup error)
EndsOver command addresses made before after Write = EndsAmid command addresses made before after Write
