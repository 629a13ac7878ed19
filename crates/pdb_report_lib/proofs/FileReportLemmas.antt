-- From the records that were handed in to how a report over them ends.
use Rattle.std.proofs.Common.{◌≡◌, ◌∙◌, ℕ, List, Option, None, Result, Ok, inr, sym, ap}
use Rattle.pdb_records.specs.Records.{Records}
use Rattle.pdb_errors.specs.declared.error.Error.{Error}
use Rattle.pdb_errors.specs.Outcomes.{unless}
use Rattle.pdb_addr2line.specs.ContextInputs.{ContextInputs}
use Rattle.pdb_addr2line.specs.ContextData.{records_refusal, default_flags, context_of}
use Rattle.pdb_report_lib.specs.declared.reports.Command.{Command}
use Rattle.pdb_report_lib.specs.declared.reports.ReportFault.{ReportFault}
use Rattle.pdb_report_lib.specs.declared.reports.ReportFault.TheVariants.{Lookup, Write}
use Rattle.pdb_report_lib.specs.Sinks.{SinkState}
use Rattle.pdb_report_lib.specs.FileReports.{opened, EndsOverRecords, EndsOver}

-- records whose streams were read are opened as their context is made
pub opened-accepted : (records given : Records) (made : Result (ContextInputs Records) Error)
    → given ≡ records → records_refusal records ≡ None → context_of default_flags given ≡ made → opened records ≡ made
opened-accepted records given made unchanged accepted is_made =
    let context : Records → Result (ContextInputs Records) Error = context_of default_flags in
    let refused : Option Error → Result (ContextInputs Records) Error = λ r. unless r (context records) in
    let same : context records ≡ context given = ap context (sym unchanged) in
    ap refused accepted ∙ (same ∙ is_made)

-- a report that ends early over records that are not refused ends amid its texts
pub ends_amid : (command : Command) (addresses : List ℕ) (inputs : ContextInputs Records) (before after : SinkState)
    (fault : ReportFault)
    → EndsOverRecords inputs command addresses before after fault
    → EndsOver command addresses (Ok inputs) before after fault
ends_amid command addresses inputs before after (Lookup error) early = inr early
ends_amid command addresses inputs before after Write early = early
