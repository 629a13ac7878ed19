-- Why a call ends a run early.
use Rattle.std.specs.Prelude.{◌≡◌, ◌≢◌, Bool, true, false, ℕ, List, string_bytes}
use Rattle.pdb_errors.specs.declared.error.Error.{Error}
use Rattle.pdb_errors.specs.declared.error.Error.TheVariants.{OutOfMemory}
use Rattle.pdb_symbolizer_input.specs.declared.run_errors.RunError.{RunError}
use Rattle.pdb_symbolizer_input.specs.declared.run_errors.RunError.TheVariants as run

-- a reason for which a run may end early
pub data Reason : Type 0 where
  -- an error of the records, or that memory ran out
  Refusal : (error : Error) → Reason
  -- a range of the file at a path can't be read
  UnreadableFile : (path : List ℕ) → Reason
  -- the input can't be read
  UnreadableInput : Reason
  -- the output refused a text
  RefusedText : Reason
  -- anything else
  OtherReason : Reason

-- the reason that an error gives
abbrev pub reason_of : RunError → Reason
reason_of (run.Refused error) = Refusal error
reason_of (run.Unreadable path) = UnreadableFile (string_bytes path)
reason_of run.CannotReadInput = UnreadableInput
reason_of run.CannotWrite = RefusedText
reason_of run.ClosedPipe = RefusedText
reason_of other = OtherReason

-- the error that says that memory ran out
abbrev pub out_of_memory : RunError
out_of_memory = run.Refused OutOfMemory

-- whether a reason may end a call, by what the call uses: an output, which may refuse a text unless it accepts all; an
-- input, if it reads one; files that it may read; and records that may be refused with an error. Memory may run out
-- anywhere
abbrev pub MayEnd : (takes_all reads_input : Bool) → (List ℕ → Type 0) → (Error → Type 0) → Reason → Type 0
MayEnd takes_all reads_input Reads Refuses (Refusal error) = error ≢ OutOfMemory → Refuses error
MayEnd takes_all reads_input Reads Refuses (UnreadableFile path) = Reads path
MayEnd takes_all reads_input Reads Refuses UnreadableInput = reads_input ≡ true
MayEnd takes_all reads_input Reads Refuses RefusedText = takes_all ≡ false
MayEnd takes_all reads_input Reads Refuses OtherReason = ⊥

-- a call reads no file
abbrev pub NoFile : List ℕ → Type 0
NoFile path = ⊥

-- a call refuses no records
abbrev pub NoRefusal : Error → Type 0
NoRefusal error = ⊥

-- the errors for which a text isn't written completely
abbrev pub EndsWrite : Bool → RunError → Type 0
EndsWrite takes_all error = MayEnd takes_all false NoFile NoRefusal (reason_of error)

-- the errors for which no more of the file at a path is read
abbrev pub EndsRead : List ℕ → RunError → Type 0
EndsRead path error = MayEnd true false (λ file. file ≡ path) NoRefusal (reason_of error)
