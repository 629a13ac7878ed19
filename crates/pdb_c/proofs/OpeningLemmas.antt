-- From what an opening reads to what its handle holds, and to the text of it.
use Rattle.std.proofs.Common.{◌≡◌, ◌∙◌, ℕ, List, [], ◌∷◌, refl, sym, ap, w64, to_z, of_z}
use Rattle.std.specs.Prelude.{ℤ, pos, Option, None, Some, Result, Ok, Err}
use Rattle.pdb_records.specs.Records.{Records}
use Rattle.pdb_errors.specs.declared.error.Error.{Error}
use Rattle.pdb_errors.specs.Outcomes.{and_then, unless}
use Rattle.pdb_addr2line.specs.ContextInputs.{ContextInputs, ContextState}
use Rattle.pdb_addr2line.specs.ContextData.{records_refusal, default_flags, context_of}
use Rattle.pdb_addr2line.specs.Calls.{fresh}
use Rattle.pdb_report_lib.specs.declared.reports.Command.{Command}
use Rattle.pdb_report_lib.specs.FileReports.{opened}
use Rattle.pdb_c.specs.declared.call_error.CallError.{CallError}
use Rattle.pdb_c.specs.declared.call_error.CallError.TheVariants as refusal
use Rattle.pdb_c.specs.CallError.{code}
use Rattle.pdb_c.specs.ReportTexts.{records_in, text_of_context, text_over, asked_text}
use Rattle.pdb_c.specs.Openings.{unless_refused, accepted_records, fresh_context, context_over}
use Rattle.pdb_c.specs.Openings.{context_to_open, held_by, LeavesOpened, LeavesOver, LeavesFile, Opens}
use Rattle.pdb_c.specs.Questions.{text_of_handle}

-- the text of a context over records of which no part has failed is that over the records
text_alike : (command : Command) (made : Result (ContextInputs Records) Error) (context : ContextState Records)
    (addresses : List ℕ) → fresh_context made ≡ Ok context
    → text_over command made addresses ≡ text_of_context command context addresses
text_alike command (Ok inputs) context addresses is =
    let same : fresh inputs ≡ context = cc in
    ap (λ c. text_of_context command c addresses) same
text_alike command (Err error) context addresses is = absurd cc

-- the same of records that may be refused
opened_alike : (command : Command) (refused : Option Error) (records : Records) (context : ContextState Records)
    (addresses : List ℕ) → and_then (unless_refused refused records) context_over ≡ Ok context
    → text_over command (unless refused (context_of default_flags records)) addresses
    ≡ text_of_context command context addresses
opened_alike command None records context addresses is =
    text_alike command (context_of default_flags records) context addresses is
opened_alike command (Some error) records context addresses is = absurd cc

-- the same of records that were read
read_alike : (command : Command) (read : Result Records CallError) (context : ContextState Records)
    (addresses : List ℕ) → and_then (and_then read accepted_records) context_over ≡ Ok context
    → and_then read (λ records. text_over command (opened records) addresses)
    ≡ text_of_context command context addresses
read_alike command (Ok records) context addresses is =
    opened_alike command (records_refusal records) records context addresses is
read_alike command (Err why) context addresses is = absurd cc

-- a handle that holds the context over their records is asked as their bytes are
pub asked_alike : (command : Command) (bytes addresses : List ℕ) (context : ContextState Records)
    → context_to_open bytes [] ≡ Ok context
    → text_of_handle command (Some context) addresses ≡ asked_text command bytes addresses
asked_alike command bytes [] context is = refl
asked_alike command bytes (address ∷ addresses) context is =
    sym (read_alike command (records_in bytes []) context (address ∷ addresses) is)

-- there is no text over records that have no context
no_text : (command : Command) (made : Result (ContextInputs Records) Error) (addresses : List ℕ) (why : CallError)
    → fresh_context made ≡ Err why → text_over command made addresses ≡ Err why
no_text command (Ok context) addresses why is = absurd cc
no_text command (Err error) addresses why is =
    let same : refusal.RecordsRefused ≡ why = cc in
    ap (λ r. Err r) same

-- the same of records that may be refused
refused_text : (command : Command) (refused : Option Error) (records : Records) (addresses : List ℕ) (why : CallError)
    → and_then (unless_refused refused records) context_over ≡ Err why
    → text_over command (unless refused (context_of default_flags records)) addresses ≡ Err why
refused_text command None records addresses why is =
    no_text command (context_of default_flags records) addresses why is
refused_text command (Some error) records addresses why is =
    let same : refusal.RecordsRefused ≡ why = cc in
    ap (λ r. Err r) same

-- bytes that can't be opened are refused alike
pub refused_alike : (command : Command) (read : Result Records CallError) (addresses : List ℕ) (why : CallError)
    → and_then (and_then read accepted_records) context_over ≡ Err why
    → and_then read (λ records. text_over command (opened records) addresses) ≡ Err why
refused_alike command (Ok records) addresses why is =
    refused_text command (records_refusal records) records addresses why is
refused_alike command (Err other) addresses why is =
    let same : other ≡ why = cc in
    ap (λ r. Err r) same

-- records of which a stream could not be read are refused
pub refuses : (records : Records) (error : Error) → records_refusal records ≡ Some error
    → accepted_records records ≡ Err refusal.RecordsRefused
refuses records error is = ap (λ r. unless_refused r records) is

-- where nothing is held for a refusal, it is that of the context
pub not_held : (wanted : Result (ContextState Records) CallError) (why : CallError)
    → held_by wanted ≡ Err why → wanted ≡ Err why
not_held (Ok context) why is = absurd cc
not_held (Err other) why is =
    let same : other ≡ why = cc in
    ap (λ r. Err r) same

-- the opening of a PDB file that was answered
pub file_left : {A : Type 0} (bytes : List ℕ) (answer : A) (held held' : Option (ContextState Records))
    → LeavesOver bytes (Ok answer) held held' → LeavesFile bytes held' (pos 0)
file_left bytes answer held (Some context) left = (left, refl)
file_left bytes answer held None left = absurd left

-- an opening that was answered
pub opens : (wanted : Result (ContextState Records) CallError) (held : Option (ContextState Records)) (answer : ℤ)
    → answer ≡ pos 0 → held_by wanted ≡ Ok held → Opens wanted held answer
opens (Ok context) held answer is left =
    let same : held ≡ Some context = cc in
    record { found = Ok context; agrees = refl; left = (same, is) }
opens (Err why) held answer is left = absurd cc

-- the numbers of refusals fit the answer's type
pub code_fits : (why : CallError) → to_z w64 (of_z w64 (code why)) ≡ code why
code_fits refusal.NoAddresses = refl
code_fits _ = refl
