-- The last of a list that passes a test.
use Rattle.std.specs.Prelude.{ℕ, zero, suc, Bool, List, [], ◌∷◌, Option, Some, slice_get, if◌then◌else◌}

-- the last element that passes the test, or `before` if there is none
abbrev pub last_over : {T : Type 0} → (T → Bool) → Option T → List T → Option T
last_over over before [] = before
last_over over before (x ∷ xs) = last_over over (if over x then Some x else before) xs

-- the element before a position, or `before` at position 0
abbrev pub ahead_of : {T : Type 0} → Option T → List T → ℕ → Option T
ahead_of before xs zero = before
ahead_of before xs (suc k) = slice_get xs k
