-- Questions to a context or a handle: the answers, and the context afterwards.
use Rattle.std.specs.Prelude.{◌≡◌, ◌≢◌, ℕ, ℤ, nat_le, List, [], ◌∷◌, find, Option, Some, None, Result, Ok, Err}
use Rattle.std.specs.Prelude.{Bool, true, ◌==◌, option_map, slice_get, unwrap_or}
use Rattle.std.specs.Option.{option_map_or}
use Rattle.pdb_records.specs.Records.{Records}
use Rattle.pdb_errors.specs.Outcomes.{and_then}
use Rattle.pdb_records.specs.Provided.{ProviderInfos}
use Rattle.pdb_frames.specs.Frame.{FramesInfo}
use Rattle.pdb_addr2line.specs.ContextInputs.{ContextState}
use Rattle.pdb_addr2line.specs.ContextData.{info_at}
use Rattle.pdb_addr2line.specs.Calls.{after_frames, after_calls}
use Rattle.pdb_addr2line.specs.FunctionIter.{after_function, start_addresses, OnlyGainsBroken}
use Rattle.pdb_addr2line.specs.Lookups.{contribution_at}
use Rattle.pdb_addr2line.specs.NamedFunctions.{named_frames_answered, named_function_at}
use Rattle.pdb_report_lib.specs.declared.reports.Command.{Command}
use Rattle.pdb_report_lib.specs.declared.reports.ReportFault.{ReportFault}
use Rattle.pdb_report_lib.specs.Reports.{report_calls, IsLeft}
use Rattle.pdb_c.specs.declared.call_error.CallError.{CallError}
use Rattle.pdb_c.specs.declared.call_error.CallError.TheVariants.{Closed, NoAddresses, AddressRefused, OutOfMemory}
use Rattle.pdb_c.specs.declared.found_frames.FoundFrames.{FoundFrames}
use Rattle.pdb_c.specs.declared.found_frames.Question.{Question}
use Rattle.pdb_c.specs.declared.found_frames.Question.TheVariants as question
use Rattle.pdb_c.specs.FoundFrames.{Shown, shown, shown_flag, shown_text, shown_view, frames_of_function, start_alone}
use Rattle.pdb_c.specs.CallError.{refusal_of_report}
use Rattle.pdb_c.specs.Buffers.{Answers}
use Rattle.pdb_c.specs.ReportTexts.{Agrees, with_refusal, text_of_context}

-- the modules of records, as a provider has them
abbrev pub infos : Records → ProviderInfos
infos records index m = info_at records index

-- the text of a report over a context; it needs at least one address
abbrev pub report_asked : Command → ContextState Records → List ℕ → Result (List ℕ) CallError
report_asked command context [] = Err NoAddresses
report_asked command context (address ∷ addresses) = text_of_context command context (address ∷ addresses)

-- the frames at an address by a context, or the refusal of the address. A function without a name gets that of its
-- symbol
abbrev pub frames_over : ContextState Records → ℕ → Result (Option FramesInfo) CallError
frames_over context address = with_refusal (λ error. AddressRefused) (named_frames_answered infos context address)

-- the first function start at or after this address, by the records of a context
abbrev pub next_start : ContextState Records → ℕ → Option ℕ
next_start context address = find (λ start. nat_le address start) (start_addresses infos context.inputs)

-- the flag of a module is set; a module without a flag has nothing to be read
abbrev pub is_flagged : List ℕ → ℕ → Bool
is_flagged flags module_index = unwrap_or (slice_get flags module_index) 1 == 1

-- the module whose code lies at an address was read, by a flag for each module
abbrev pub is_read_at : List ℕ → ContextState Records → ℕ → Bool
is_read_at flags context address =
    option_map_or (is_flagged flags) (option_map (λ c. c.module_index) (contribution_at context.inputs address)) true

-- the answer of a context to a question, in the form for C
abbrev pub answer_in : ContextState Records → Question → Result Shown CallError
answer_in context (question.Frames address) =
    and_then (frames_over context address) (λ found.
    Ok (shown found))
answer_in context (question.Function address) =
    Ok (shown (option_map frames_of_function (named_function_at infos context.inputs address)))
answer_in context (question.NextStart address) =
    Ok (shown (option_map frames_of_function (option_map start_alone (next_start context address))))
answer_in context (question.Report command addresses) =
    and_then (report_asked command context addresses.now) (λ text.
    Ok (shown_text text))
answer_in context (question.IsRead flags address) = Ok (shown_flag (is_read_at flags.now context address))

-- the answer of a handle to a question; a closed handle refuses it
abbrev pub answer_of_handle : Option (ContextState Records) → Question → Result Shown CallError
answer_of_handle None asked = Err Closed
answer_of_handle (Some context) asked = answer_in context asked

-- the context after a call. After an allocation failure, it has remembered only broken parts of the records
abbrev pub IsLeftByCall : {A : Type 0} → Result A CallError → (before whole after : ContextState Records) → Type 0
IsLeftByCall (Ok answer) before whole after = after ≡ whole
IsLeftByCall (Err refusal) before whole after =
    (refusal ≢ OutOfMemory → after ≡ whole) × (refusal ≡ OutOfMemory → OnlyGainsBroken infos before after)

-- the context after a report that ended early
pub record IsLeftEarly (before after : ContextState Records) (command : Command) (addresses : List ℕ)
    (refusal : CallError) : Type 0 where
  pub fault : ReportFault
  pub told : refusal ≡ refusal_of_report fault
  pub left : IsLeft infos before after command addresses fault

-- the context after a report: that after all its calls; if it ended early, that after the calls before its end
abbrev pub IsLeftWithText : {A : Type 0} → Result A CallError → (before after : ContextState Records) → Command → List ℕ
    → Type 0
IsLeftWithText (Ok answer) before after command addresses =
    after ≡ after_calls infos before (report_calls command addresses)
IsLeftWithText (Err refusal) before after command addresses = IsLeftEarly before after command addresses refusal

-- the context after a report, which is unchanged if there are no addresses
abbrev pub IsLeftByReport : {A : Type 0} → Result A CallError → (before after : ContextState Records) → Command → List ℕ
    → Type 0
IsLeftByReport result before after command [] = after ≡ before
IsLeftByReport result before after command (address ∷ addresses) =
    IsLeftWithText result before after command (address ∷ addresses)

-- the context after a question: the broken parts of the records that it found have failed
abbrev pub IsLeftBy : {A : Type 0} → Result A CallError → ContextState Records → Question → ContextState Records
    → Type 0
IsLeftBy result before (question.Frames address) after =
    IsLeftByCall result before (after_frames infos before address) after
IsLeftBy result before (question.Function address) after =
    IsLeftByCall result before (after_function infos before address) after
IsLeftBy result before (question.NextStart address) after = after ≡ before
IsLeftBy result before (question.IsRead flags address) after = after ≡ before
IsLeftBy result before (question.Report command addresses) after =
    IsLeftByReport result before after command addresses.now

-- a handle has a context with this property
abbrev pub HoldsSo : (ContextState Records → Type 0) → Option (ContextState Records) → Type 0
HoldsSo P (Some context) = P context
HoldsSo P None = ⊥

-- the content of a handle after a question: a closed handle stays closed, and an open one has its context
abbrev pub LeavesHandle : {A : Type 0} → Result A CallError → Option (ContextState Records) → Question
    → Option (ContextState Records) → Type 0
LeavesHandle result None asked held' = held' ≡ None
LeavesHandle result (Some context) asked held' = HoldsSo (IsLeftBy result context asked) held'

-- the text of a report by a handle: refused if it is closed, and if there are no addresses
abbrev pub text_of_handle : Command → Option (ContextState Records) → List ℕ → Result (List ℕ) CallError
text_of_handle command None addresses = Err Closed
text_of_handle command (Some context) addresses = report_asked command context addresses

-- the content of a handle after a report
abbrev pub LeavesReported : {A : Type 0} → Result A CallError → Option (ContextState Records) → Command → List ℕ
    → Option (ContextState Records) → Type 0
LeavesReported result None command addresses held' = held' ≡ None
LeavesReported result (Some context) command addresses held' =
    HoldsSo (λ after. IsLeftByReport result context after command addresses) held'

-- the end of a call for a text by a handle: it has the defined text or refusal, except after an allocation failure
pub record EndsWithText (held held' : Option (ContextState Records)) (command : Command) (addresses : List ℕ)
    (before after : List ℕ) (wanted : ℕ) (answer : ℤ) : Type 0 where
  pub found : Result (List ℕ) CallError
  pub agrees : Agrees (λ text. text) found (text_of_handle command held addresses)
  pub left : Answers found before after wanted answer
  pub holds : LeavesReported found held command addresses held'

-- the answer to a question is the defined one, or the defined refusal, except after an allocation failure
abbrev pub AnswersHandle : Result FoundFrames CallError → Option (ContextState Records) → Question → Type 0
AnswersHandle result held asked = Agrees shown_view result (answer_of_handle held asked)

-- the answer of a handle's context, if there is one
abbrev pub AnswersHeld : Option (Result FoundFrames CallError) → Option (ContextState Records) → Question → Type 0
AnswersHeld None None asked = Unit {0}
AnswersHeld None (Some context) asked = ⊥
AnswersHeld (Some result) None asked = ⊥
AnswersHeld (Some result) (Some context) asked = Agrees shown_view result (answer_in context asked)

-- the content of the handle after this answer
abbrev pub LeavesHeld : Option (Result FoundFrames CallError) → Option (ContextState Records) → Question
    → Option (ContextState Records) → Type 0
LeavesHeld None held asked held' = held' ≡ held
LeavesHeld (Some result) held asked held' = LeavesHandle result held asked held'
