-- The model of a session: what it has read of its file, and what it answers.
use Rattle.std.specs.Prelude.{◌≡◌, ◌≢◌, ℕ, Bool, not, ◌||◌, List, [], Option, option_map, Result, Ok, Err}
use Rattle.std.specs.Prelude.{find, nat_le}
use Rattle.std.specs.Global.{Vec}
use Rattle.std.specs.List.{list_all}
use Rattle.pdb_records.specs.Records.{Records}
use Rattle.pdb_errors.specs.declared.error.Error.TheVariants.{OutOfMemory}
use Rattle.pdb_frames.specs.Frame.{FramesInfo}
use Rattle.pdb_function_info.specs.Function.{function_view}
use Rattle.pdb_function_info.specs.declared.function.Function.{Function}
use Rattle.pdb_types.specs.declared.flags.TypeFormatterFlags.{TypeFormatterFlags}
use Rattle.pdb_addr2line.specs.declared.calls.Answer.{Answer}
use Rattle.pdb_addr2line.specs.declared.calls.Call.{Call}
use Rattle.pdb_addr2line.specs.Calls.{Appends, StopsEarly, after_calls, answers_to}
use Rattle.pdb_addr2line.specs.ContextInputs.{ContextInputs, ContextState}
use Rattle.pdb_addr2line.specs.FunctionIter.{start_addresses}
use Rattle.pdb_addr2line.specs.Lookups.{code_failed_after, failed_after, failed_after_frames}
use Rattle.pdb_addr2line.specs.NamedFunctions.{named_frames_answered, named_function_at}
use Rattle.pdb_repairs.specs.declared.repairs.Repair.{Repair}
use Rattle.pdb_known.specs.Known.{Known, Span, infos_of}
use Rattle.pdb_known.specs.StrictlyClosed.{is_strictly_closed}
use Rattle.pdb_session.specs.declared.session_context.QuestionError.{QuestionError}
use Rattle.pdb_session.specs.declared.session_context.QuestionError.TheVariants as fault
use Rattle.pdb_session.specs.CodeOwners.{lacks_owner, owners_of}

-- the model of a session: what it has read, the repairs that it keeps of each module to return them later, the bytes of
-- its file if the source has a model of them, and the length of the file
pub record SessionFile : Type 0 where
  pub known : Known
  pub kept : List (List Repair)
  pub bytes : Option (List ℕ)
  pub file_length : ℕ

-- the session still has the same file
abbrev pub SameFile : SessionFile → SessionFile → Type 0
SameFile before after = (after.bytes ≡ before.bytes) × (after.file_length ≡ before.file_length)

-- the span of a stream without entries
abbrev pub no_entries : Span
no_entries = record { first = 0; read = [] }

-- whether something is still to be read for the answer at an address: the module that owns the code there, or a part to
-- which one that was read refers
abbrev pub needs : Known → ℕ → Bool
needs known address = not (is_strictly_closed known) || lacks_owner known (owners_of known.records) address

-- whether nothing is still to be read for the answers at these addresses
abbrev pub needs_none : Known → List ℕ → Bool
needs_none known addresses = list_all (λ address. not (needs known address)) addresses

-- a context over what was read: what was read, the flags for printing names, and the state of the context
pub record ContextOverPart : Type 0 where
  pub known : Known
  pub flags : TypeFormatterFlags
  pub state : ContextState Records

-- the context with other records; it keeps the parts that failed
abbrev pub over : ContextState Records → ContextInputs Records → ContextState Records
over state inputs = record state { inputs = inputs }

-- the frames at an address are those of a context with these records and the same failed parts. A function without a
-- name gets that of its symbol. The only other error is an allocation failure
abbrev pub GivesFrames : Result (Option FramesInfo) QuestionError → ContextState Records → ContextInputs Records → ℕ
    → Type 0
GivesFrames (Ok found) state inputs address = named_frames_answered infos_of (over state inputs) address ≡ Ok found
GivesFrames (Err (fault.Records error)) state inputs address =
    error ≢ OutOfMemory → named_frames_answered infos_of (over state inputs) address ≡ Err error
GivesFrames (Err fault.NotRead) state inputs address = ⊥

-- the parts that have failed after the frames at an address, by these records
abbrev pub HasFailed : ContextState Records → ContextState Records → ContextInputs Records → ℕ → Type 0
HasFailed before after inputs address =
    (after.failed ≡ failed_after_frames infos_of inputs address before.failed)
    × (after.code_failed ≡ code_failed_after infos_of (over before inputs) address)

-- finding frames leaves the same parts failed as in a context with these records, except after an allocation failure
abbrev pub LeavesFailed : Result (Option FramesInfo) QuestionError → ContextState Records → ContextState Records
    → ContextInputs Records → ℕ → Type 0
LeavesFailed (Ok found) before after inputs address = HasFailed before after inputs address
LeavesFailed (Err (fault.Records error)) before after inputs address =
    error ≢ OutOfMemory → HasFailed before after inputs address
LeavesFailed (Err fault.NotRead) before after inputs address = ⊥

-- the function at an address is that of a context with these records; without a name it gets that of its symbol. The
-- only error is an allocation failure
abbrev pub GivesFunction : Result (Option Function) QuestionError → ContextInputs Records → ℕ → Type 0
GivesFunction (Ok found) inputs address = option_map function_view found ≡ named_function_at infos_of inputs address
GivesFunction (Err (fault.Records error)) inputs address = error ≡ OutOfMemory
GivesFunction (Err fault.NotRead) inputs address = ⊥

-- the parts that have failed after the function at an address, by these records; parts of code stay as they were
abbrev pub HasFailedByFunction : ContextState Records → ContextState Records → ContextInputs Records → ℕ → Type 0
HasFailedByFunction before after inputs address =
    (after.failed ≡ failed_after infos_of inputs address before.failed) × (after.code_failed ≡ before.code_failed)

-- the start addresses are those of these complete records, except after an allocation failure
abbrev pub GivesStarts : Result (Vec ℕ) QuestionError → ContextInputs Records → Type 0
GivesStarts (Ok starts) inputs = starts.items ≡ start_addresses infos_of inputs
GivesStarts (Err (fault.Records error)) inputs = error ≡ OutOfMemory
GivesStarts (Err fault.NotRead) inputs = ⊥

-- the start of the next function is that of these complete records, except after an allocation failure
abbrev pub GivesNextStart : Result (Option ℕ) QuestionError → ContextInputs Records → ℕ → Type 0
GivesNextStart (Ok start) inputs address = start ≡ find (λ from. nat_le address from) (start_addresses infos_of inputs)
GivesNextStart (Err (fault.Records error)) inputs address = error ≡ OutOfMemory
GivesNextStart (Err fault.NotRead) inputs address = ⊥

-- the calls have the answers of these complete records, and leave the context that these define. After an allocation
-- failure, some first calls have them
abbrev pub EndsCalls : Result (Unit {0}) QuestionError → ContextState Records → ContextState Records → List Call
    → List Answer → List Answer → Type 0
EndsCalls (Ok _) before after calls answers answers' =
    Appends answers answers' (answers_to infos_of before calls) × (after ≡ after_calls infos_of before calls)
EndsCalls (Err (fault.Records error)) before after calls answers answers' =
    (error ≡ OutOfMemory) × StopsEarly infos_of before calls answers answers' after
EndsCalls (Err fault.NotRead) before after calls answers answers' = ⊥
