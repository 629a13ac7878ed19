-- Bounds: the starts and ends of ranges.
use Rattle.std.specs.Prelude.{◌≡◌, ℕ, ◌<◌, ◌≤◌, List, [], ◌∷◌}
use Rattle.pdb_inline.specs.declared.inline_ranges.InlineRange.{InlineRange}

-- the starts and ends of ranges
abbrev pub bounds : List InlineRange → List ℕ
bounds [] = []
bounds (range ∷ ranges) = range.start_offset ∷ range.end_offset ∷ bounds ranges

-- the bounds ascend from `n` on. The value of a number changes only at a bound, and is empty after the last one
abbrev pub ChangesAt : (ℕ → List ℕ) → ℕ → List ℕ → Type 0
ChangesAt values n [] = (x : ℕ) → n ≤ x → values x ≡ []
ChangesAt values n (bound ∷ bounds) =
    (n ≤ bound) × ((x : ℕ) → n ≤ x → x < bound → values x ≡ values n) × ChangesAt values bound bounds
