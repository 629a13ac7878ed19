-- Values and refusals of definitions, and how the result of a call relates to them.
use Rattle.std.specs.Prelude.{◌≡◌, List, ◌++◌, Result, Ok, Err}
use Rattle.pe_unwind.specs.declared.unwind_errors.EntryError.{EntryError}
use Rattle.pe_unwind.specs.declared.unwind_errors.UnwindError.{UnwindError}
use Rattle.pe_unwind.specs.declared.unwind_errors.UnwindError.TheVariants.{OutOfMemory, Refused}

-- passes a value to a computation; a refusal stays the refusal
infixl 10 ◌>>=◌
abbrev pub ◌>>=◌ : {A B : Type 0} → Result A EntryError → (A → Result B EntryError) → Result B EntryError
(Ok value) >>= next = next value
(Err refusal) >>= next = Err refusal

-- items that were read, before those that are read after them
abbrev pub behind : {A : Type 0} → List A → Result (List A) EntryError → Result (List A) EntryError
behind items read = read >>= λ rest. Ok (items ++ rest)

-- a fault is this refusal, not an allocation failure
abbrev pub IsRefusal : UnwindError → Type 0
IsRefusal (Refused refusal) = Unit {0}
IsRefusal OutOfMemory = ⊥

-- a call that fails has the defined refusal, except after an allocation failure
abbrev pub Fails : {A : Type 0} → UnwindError → Result A EntryError → Type 0
Fails (Refused refusal) defined = defined ≡ Err refusal
Fails OutOfMemory defined = Unit {0}

-- a call's result is the defined one: the value as `seen` shows it, or the refusal, except after an allocation failure
abbrev pub Gives : {A B : Type 0} → (A → B) → Result A UnwindError → Result B EntryError → Type 0
Gives seen (Ok answer) defined = defined ≡ Ok (seen answer)
Gives seen (Err fault) defined = Fails fault defined
