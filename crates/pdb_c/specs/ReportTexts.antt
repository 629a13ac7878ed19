-- The texts of reports, or why there is none.
use Rattle.std.specs.Prelude.{◌≡◌, ◌≢◌, ℕ, List, [], ◌∷◌, Result, Ok, Err}
use Rattle.pdb_records.specs.Records.{Records}
use Rattle.pdb_errors.specs.declared.error.Error.{Error}
use Rattle.pdb_errors.specs.Outcomes.{and_then}
use Rattle.pdb_addr2line.specs.ContextInputs.{ContextInputs, ContextState}
use Rattle.pdb_addr2line.specs.ContextData.{info_at}
use Rattle.pdb_addr2line.specs.Calls.{fresh}
use Rattle.pdb_json.specs.RecordsFile.{records_of_files}
use Rattle.pdb_report_lib.specs.declared.reports.Command.{Command}
use Rattle.pdb_report_lib.specs.Reports.{report_text}
use Rattle.pdb_report_lib.specs.FileReports.{opened}
use Rattle.pdb_c.specs.declared.call_error.CallError.{CallError}
use Rattle.pdb_c.specs.declared.call_error.CallError.TheVariants.{NoAddresses, RecordsRefused, AddressRefused, OutOfMemory}
use Rattle.pdb_c.specs.CallError.{refusal_of}

-- a result whose error is turned into a refusal
abbrev pub with_refusal : {A E : Type 0} → (E → CallError) → Result A E → Result A CallError
with_refusal refusal (Ok answer) = Ok answer
with_refusal refusal (Err error) = Err (refusal error)

-- the records in the bytes of a records file and of its module files, or the refusal for their fault
abbrev pub records_in : List ℕ → List (List ℕ) → Result Records CallError
records_in bytes files = with_refusal refusal_of (records_of_files bytes files)

-- the text of a report over a context; refused if an address is
abbrev pub text_of_context : Command → ContextState Records → List ℕ → Result (List ℕ) CallError
text_of_context command context addresses =
    with_refusal (λ error. AddressRefused)
    (report_text (λ records index m. info_at records index) context.inputs context.code_failed command addresses)

-- the text of a report over records; refused if they have no context, or if an address is refused
abbrev pub text_over : Command → Result (ContextInputs Records) Error → List ℕ → Result (List ℕ) CallError
text_over command made addresses =
    and_then (with_refusal (λ error. RecordsRefused) made) (λ inputs. text_of_context command (fresh inputs) addresses)

-- the text of a report over the bytes of a records file that names no module files
abbrev pub text_in : Command → List ℕ → List ℕ → Result (List ℕ) CallError
text_in command bytes addresses =
    and_then (records_in bytes []) (λ records. text_over command (opened records) addresses)

-- the text of a report over the bytes of a records file; it needs at least one address
abbrev pub asked_text : Command → List ℕ → List ℕ → Result (List ℕ) CallError
asked_text command bytes [] = Err NoAddresses
asked_text command bytes (address ∷ addresses) = text_in command bytes (address ∷ addresses)

-- the result is the defined one as `seen` shows it, or the defined refusal, except after an allocation failure
abbrev pub Agrees : {A B : Type 0} → (A → B) → Result A CallError → Result B CallError → Type 0
Agrees seen (Ok answer) definition = definition ≡ Ok (seen answer)
Agrees seen (Err refusal) definition = refusal ≢ OutOfMemory → definition ≡ Err refusal
