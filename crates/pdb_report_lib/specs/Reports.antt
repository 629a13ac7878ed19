-- The texts of reports, and why reports end early.
use Rattle.std.specs.Prelude.{◌≡◌, ◌≢◌, ◌≤◌, ℕ, true, List, [], ◌∷◌, ◌++◌}
use Rattle.std.specs.Prelude.{Some, Result, Ok, Err, length, take, map, slice_get}
use Rattle.pdb_errors.specs.declared.error.Error.{Error}
use Rattle.pdb_errors.specs.declared.error.Error.TheVariants.{OutOfMemory}
use Rattle.pdb_errors.specs.Outcomes.{and_then}
use Rattle.pdb_records.specs.Provided.{ProviderInfos}
use Rattle.pdb_function_info.specs.Function.{FunctionInfo}
use Rattle.pdb_addr2line.specs.declared.calls.Call.{Call}
use Rattle.pdb_addr2line.specs.declared.calls.Call.TheVariants.{FindFunction, FindFrames, Functions}
use Rattle.pdb_addr2line.specs.Calls.{after_frames, after_calls}
use Rattle.pdb_addr2line.specs.FunctionIter.{functions_of, start_addresses, IsCutShort, OnlyGainsBroken}
use Rattle.pdb_frames.specs.CodeParts.{CodeParts}
use Rattle.pdb_addr2line.specs.Lookups.{function_at, frames_at, blamed_at, answered_refusal}
use Rattle.pdb_addr2line.specs.ContextInputs.{ContextInputs, ContextState}
use Rattle.pdb_report_lib.specs.declared.reports.Command.{Command}
use Rattle.pdb_report_lib.specs.declared.reports.Command.TheVariants.{Names, Frames}
use Rattle.pdb_report_lib.specs.declared.reports.Command.TheVariants as wanted
use Rattle.pdb_report_lib.specs.declared.reports.ReportFault.{ReportFault}
use Rattle.pdb_report_lib.specs.declared.reports.ReportFault.TheVariants.{Lookup, Write}
use Rattle.pdb_report_lib.specs.Sinks.{SinkState, Takes}
use Rattle.pdb_report_lib.specs.PrintedFrames.{frames_text}
use Rattle.pdb_report_lib.specs.PrintedLines.{names_line, list_text}

-- the text of an address: the line of the function there
abbrev pub function_text : {P : Type 0} → (P → ProviderInfos) → ContextInputs P → ℕ → Result (List ℕ) Error
function_text info inputs address = Ok (names_line address (function_at info inputs address))

-- the text of an address: the lines of the frames there, or the error of the lookup, if these parts of the records of
-- code failed before
abbrev pub stack_text : {P : Type 0} → (P → ProviderInfos) → ContextInputs P → CodeParts → ℕ
    → Result (List ℕ) Error
stack_text info inputs failed address =
    and_then (answered_refusal failed (blamed_at info inputs address) (frames_at info inputs address)) (λ frames.
    Ok (frames_text address frames))

-- the texts of addresses in order, or the first error
abbrev pub addresses_text : (ℕ → Result (List ℕ) Error) → List ℕ → Result (List ℕ) Error
addresses_text text_of [] = Ok []
addresses_text text_of (address ∷ addresses) =
    and_then (text_of address) (λ text.
    and_then (addresses_text text_of addresses) (λ texts.
    Ok (text ++ texts)))

-- the text of a report by its command, if these parts of the records of code failed before; a list has all functions
-- and ignores the addresses
abbrev pub report_text : {P : Type 0} → (P → ProviderInfos) → ContextInputs P → CodeParts → Command → List ℕ
    → Result (List ℕ) Error
report_text info inputs failed Names addresses = addresses_text (function_text info inputs) addresses
report_text info inputs failed Frames addresses = addresses_text (stack_text info inputs failed) addresses
report_text info inputs failed wanted.List addresses = Ok (list_text (functions_of info inputs))

-- the calls of a report to its context: one for each address, or one for all functions
abbrev pub report_calls : Command → List ℕ → List Call
report_calls Names addresses = map FindFunction addresses
report_calls Frames addresses = map FindFrames addresses
report_calls wanted.List addresses = Functions ∷ []

-- a context after a lookup of frames; after an allocation failure, it has remembered only broken parts of the records
abbrev pub IsLeftByFrames : {P : Type 0} → (P → ProviderInfos) → ContextState P → ℕ → ReportFault → ContextState P
    → Type 0
IsLeftByFrames info before address (Lookup error) after =
    (error ≡ OutOfMemory → OnlyGainsBroken info before after)
    × (error ≢ OutOfMemory → after ≡ after_frames info before address)
IsLeftByFrames info before address Write after = after ≡ after_frames info before address

-- a context that found the frames at the first of these addresses, and then looked up those at the next one
pub record IsLeftAmid {P : Type 0} (info : P → ProviderInfos) (before after : ContextState P) (addresses : List ℕ)
    (fault : ReportFault) : Type 0 where
  pub done : ℕ
  pub address : ℕ
  pub next : slice_get addresses done ≡ Some address
  pub left : IsLeftByFrames info (after_calls info before (map FindFrames (take done addresses))) address fault after

-- the context after a report that ended early: the lookups before are done, and of the last one only broken parts of
-- the records are remembered
abbrev pub IsLeft : {P : Type 0} → (P → ProviderInfos) → ContextState P → ContextState P → Command → List ℕ
    → ReportFault
    → Type 0
IsLeft info before after Names addresses fault = IsCutShort info before after addresses
IsLeft info before after Frames addresses fault = IsLeftAmid info before after addresses fault
IsLeft info before after wanted.List addresses fault =
    IsCutShort info before after (start_addresses info before.inputs)

-- a sink takes the text, if there is one
abbrev pub TakesText : Result (List ℕ) Error → SinkState → SinkState → Type 0
TakesText (Ok text) before after = Takes before after text
TakesText (Err error) before after = ⊥

-- the lookup of an address has this error or an allocation failure, and the sink is unchanged; or the sink refused the
-- text
abbrev pub EndsAtOnce : Result (List ℕ) Error → SinkState → SinkState → ReportFault → Type 0
EndsAtOnce text before after (Lookup error) = (error ≢ OutOfMemory → text ≡ Err error) × (after ≡ before)
EndsAtOnce text before after Write = after.failed ≡ true

-- a lookup has this error or an allocation failure, and the sink has the texts of the addresses before that one
pub record EndsAt (text_of : ℕ → Result (List ℕ) Error) (addresses : List ℕ) (before after : SinkState) (error : Error)
    : Type 0 where
  pub done : ℕ
  pub address : ℕ
  pub next : slice_get addresses done ≡ Some address
  pub refused : error ≢ OutOfMemory → text_of address ≡ Err error
  pub taken : TakesText (addresses_text text_of (take done addresses)) before after

-- why a report of addresses ends early: a lookup failed, or the sink refused a text
abbrev pub EndsAmidTexts : (ℕ → Result (List ℕ) Error) → List ℕ → SinkState → SinkState → ReportFault → Type 0
EndsAmidTexts text_of addresses before after (Lookup error) = EndsAt text_of addresses before after error
EndsAmidTexts text_of addresses before after Write = after.failed ≡ true

-- memory ran out, and the sink has the lines of the functions before
pub record EndsAmidList (functions : List FunctionInfo) (before after : SinkState) (error : Error) : Type 0 where
  pub done : ℕ
  pub within : done ≤ length functions
  pub memory : error ≡ OutOfMemory
  pub taken : Takes before after (list_text (take done functions))

-- why a list of functions ends early: memory ran out, or the sink refused a text
abbrev pub EndsListEarly : List FunctionInfo → SinkState → SinkState → ReportFault → Type 0
EndsListEarly functions before after (Lookup error) = EndsAmidList functions before after error
EndsListEarly functions before after Write = after.failed ≡ true

-- why a report ends early, by its command
abbrev pub EndsEarly : {P : Type 0} → (P → ProviderInfos) → ContextInputs P → CodeParts → Command → List ℕ
    → SinkState → SinkState → ReportFault → Type 0
EndsEarly info inputs failed Names addresses before after fault =
    EndsAmidTexts (function_text info inputs) addresses before after fault
EndsEarly info inputs failed Frames addresses before after fault =
    EndsAmidTexts (stack_text info inputs failed) addresses before after fault
EndsEarly info inputs failed wanted.List addresses before after fault =
    EndsListEarly (functions_of info inputs) before after fault
