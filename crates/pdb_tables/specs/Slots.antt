-- Lists of slots, of which each is empty or holds something.
use Rattle.std.specs.Prelude.{ℕ, List, Option, slice_get, option_and_then}

-- the value in the slot at a position, if there is one
abbrev pub held : {T : Type 0} → List (Option T) → ℕ → Option T
held slots position = option_and_then (λ slot. slot) (slice_get slots position)
