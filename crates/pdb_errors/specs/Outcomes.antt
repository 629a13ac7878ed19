-- How the result of a call relates to its definition.
use Rattle.std.specs.Prelude.{◌≡◌, ◌≢◌, Option, Some, None, Result, Ok, Err}
use Rattle.std.specs.Borrow.{Bor}
use Rattle.pdb_records.specs.declared.error.StreamError.{StreamError}
use Rattle.pdb_records.specs.declared.error.Error.TheVariants.{Stream}
use Rattle.pdb_errors.specs.declared.error.Error.{Error}
use Rattle.pdb_errors.specs.declared.error.Error.TheVariants.{PdbError, OutOfMemory}

-- a call has the defined answer or error, except after an allocation failure
abbrev pub Gives : {A B : Type 0} → (A → B) → Result A Error → Result B Error → Type 0
Gives view (Ok answer) definition = definition ≡ Ok (view answer)
Gives view (Err error) definition = error ≢ OutOfMemory → definition ≡ Err error

-- passes an answer to the next definition; an error stays
abbrev pub and_then : {A B E : Type 0} → Result A E → (A → Result B E) → Result B E
and_then (Ok answer) next = next answer
and_then (Err e) next = Err e

-- the borrowed value of a result
abbrev pub lent : {A E : Type 0} → Result (Bor A) E → Result A E
lent (Ok loan) = Ok loan.now
lent (Err e) = Err e

-- the first of two refusals
abbrev pub first_refusal : Option Error → Option Error → Option Error
first_refusal None later = later
first_refusal (Some error) later = Some error

-- an answer, unless there is a refusal
abbrev pub unless : {A : Type 0} → Option Error → Result A Error → Result A Error
unless None answer = answer
unless (Some error) answer = Err error

-- a test passes if its definition has no refusal, otherwise it has this refusal
abbrev pub Refuses : {A : Type 0} → Result A Error → Option Error → Type 0
Refuses (Ok passed) refusal = refusal ≡ None
Refuses (Err error) refusal = refusal ≡ Some error

-- a stream's content, or its fault as an error
abbrev pub streamed : {A : Type 0} → Result A StreamError → Result A Error
streamed (Ok content) = Ok content
streamed (Err fault) = Err (PdbError (Stream fault))
