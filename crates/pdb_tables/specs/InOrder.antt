-- Lists in order.
use Rattle.std.specs.Prelude.{Bool, List, [], ◌∷◌, if◌then◌else◌}

-- puts an element before the first one that isn't before it
abbrev pub put : {T : Type 0} → (T → T → Bool) → T → List T → List T
put before x [] = x ∷ []
put before x (y ∷ ys) = if before y x then y ∷ put before x ys else x ∷ y ∷ ys

-- the elements sorted by `before`; the sort is stable
abbrev pub in_order : {T : Type 0} → (T → T → Bool) → List T → List T
in_order before [] = []
in_order before (x ∷ xs) = put before x (in_order before xs)
