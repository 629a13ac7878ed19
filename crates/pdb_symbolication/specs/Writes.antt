-- What a writer has of a text, after the text was written or an error stopped it.
use Rattle.std.specs.Prelude.{◌≡◌, ℕ, List, ◌++◌, Option, Result, MatchResult}
use Rattle.std.specs.Io.KnownBytes.{Appends}

-- the known bytes grow by the start of a text
pub record AppendsBeginning (known after : Option (List ℕ)) (text : List ℕ) : Type 0 where
  pub written : List ℕ
  pub left : List ℕ
  pub whole : written ++ left ≡ text
  pub held : Appends known after written

-- the known bytes grow by a text, or after an error by the start of it
abbrev pub Writes : {A E : Type 0} → (known after : Option (List ℕ)) → Result A E → List ℕ → Type 0
Writes known after result text =
    MatchResult result (λ _. Appends known after text) (λ _. AppendsBeginning known after text)
