-- Answers that are what a definition says.
use Rattle.std.proofs.Common.{◌≡◌, sym}
use Rattle.std.specs.Prelude.{Result, Ok, Err}
use Rattle.pdb_errors.specs.Outcomes.{Gives}
use Rattle.pdb_errors.specs.declared.error.Error.{Error}

-- an answer that is the definition's is what it gives
pub gives_same : {A : Type 0} (answer definition : Result A Error) → answer ≡ definition
    → Gives (λ a. a) answer definition
gives_same (Ok a) definition same = sym same
gives_same (Err e) definition same = λ _. sym same
