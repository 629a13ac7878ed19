-- Texts that are written one after the other.
use Rattle.std.proofs.Common.{◌≡◌, ◌∙◌, ap, List, ℕ, ◌++◌, append_assoc, Result, Ok, Err}
use Rattle.std.specs.Prelude.{OnOk, is_ok, if◌then◌else◌}

-- a text gained this one at its end
pub record Gains (old text new : List ℕ) : Type 0 where
  pub written : new ≡ old ++ text

-- what a text has gained once both were written
pub gains_both : {old middle new front back : List ℕ} → Gains old front middle → Gains middle back new
    → Gains old (front ++ back) new
gains_both {old} {middle} {new} {front} {back} before after =
    let grown = ap (λ (text : List ℕ). text ++ back) before.written in
    record { written = after.written ∙ grown ∙ append_assoc old front back }

-- the same, where the last part may not have been written
pub gains_on_ok : {E : Type 0} (result : Result (Unit {0}) E) {old middle front : List ℕ} (new back : List ℕ)
    → Gains old front middle → OnOk result (new ≡ middle ++ back) → OnOk result (new ≡ old ++ (front ++ back))
gains_on_ok (Ok done) new back before after = (gains_both before (record { written = after })).written
gains_on_ok (Err fault) new back before after = tt

-- what `push_str` wrote, where it did
pub pushed : {E : Type 0} (result : Result (Unit {0}) E) (old new text : List ℕ)
    → new ≡ (if is_ok result then old ++ text else old) → OnOk result (new ≡ old ++ text)
pushed (Ok done) old new text written = written
pushed (Err fault) old new text written = tt

-- the same text, as it is written otherwise
pub on_ok_as : {E : Type 0} (result : Result (Unit {0}) E) (old new : List ℕ) {written text : List ℕ} → written ≡ text
    → OnOk result (new ≡ old ++ written) → OnOk result (new ≡ old ++ text)
on_ok_as (Ok done) old new same grown = grown ∙ ap (λ (bytes : List ℕ). old ++ bytes) same
on_ok_as (Err fault) old new same grown = tt
