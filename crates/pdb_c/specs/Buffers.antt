-- What a call writes into the caller's buffer, and its return value.
use Rattle.std.specs.Prelude.{◌≡◌, ℕ, ℤ, pos, List, ◌++◌, length, drop, nat_le, if◌then◌else◌, Result, Ok, Err, Vec}
use Rattle.std.specs.declared.alloc.Global.{Global}
use Rattle.pdb_c.specs.declared.call_error.CallError.{CallError}
use Rattle.pdb_c.specs.declared.call_error.CallError.TheVariants.{BufferTooSmall}
use Rattle.pdb_c.specs.CallError.{code}
use Rattle.pdb_c.specs.ReportTexts.{Agrees}

-- a buffer with a text at its start; unchanged if the text doesn't fit
abbrev pub with_text : List ℕ → List ℕ → List ℕ
with_text text buffer =
    if nat_le (length text) (length buffer) then text ++ drop (length text) buffer else buffer

-- the length of a text that fits into a buffer, or the number for one that doesn't
abbrev pub length_or_code : List ℕ → List ℕ → ℤ
length_or_code text buffer =
    if nat_le (length text) (length buffer) then pos (length text) else code BufferTooSmall

-- the buffer, the wanted length and the return value after a call, by its text or refusal
abbrev pub Answers : Result (List ℕ) CallError → (before after : List ℕ) → ℕ → ℤ → Type 0
Answers (Ok text) before after wanted answer =
    (after ≡ with_text text before) × (wanted ≡ length text) × (answer ≡ length_or_code text before)
Answers (Err refusal) before after wanted answer =
    (after ≡ before) × (wanted ≡ 0) × (answer ≡ code refusal)

-- the model of a gathered text: its bytes
abbrev pub gathered : Result (Vec ℕ Global) CallError → Result (List ℕ) CallError
gathered (Ok text) = Ok text.items
gathered (Err refusal) = Err refusal

-- the end of a call: it has the defined text or refusal, except after an allocation failure
pub record Ends (asked : Result (List ℕ) CallError) (before after : List ℕ) (wanted : ℕ) (answer : ℤ) : Type 0 where
  pub found : Result (List ℕ) CallError
  pub agrees : Agrees (λ text. text) found asked
  pub left : Answers found before after wanted answer

-- the end of a call whose text has no definition: some text, or a refusal
pub record AnswersSome (before after : List ℕ) (wanted : ℕ) (answer : ℤ) : Type 0 where
  pub found : Result (List ℕ) CallError
  pub left : Answers found before after wanted answer
