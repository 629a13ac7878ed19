-- The models of sinks.
use Rattle.std.specs.Prelude.{◌≡◌, ℕ, Bool, List, ◌++◌, Option, Some, None}

-- the model of a sink: the bytes that it holds, if it shows them, and whether it refused a piece
pub record SinkState : Type 0 where
  pub held : Option (List ℕ)
  pub failed : Bool

-- known bytes have these appended
abbrev pub Grows : Option (List ℕ) → Option (List ℕ) → List ℕ → Type 0
Grows None after bytes = Unit {0}
Grows (Some held) after bytes = after ≡ Some (held ++ bytes)

-- a sink takes these bytes: it appends them, if it shows its bytes, and has refused no more than before
pub record Takes (before after : SinkState) (bytes : List ℕ) : Type 0 where
  pub held : Grows before.held after.held bytes
  pub unchanged : after.failed ≡ before.failed
