-- Painting: segments put over others.
use Rattle.std.specs.Prelude.{◌≡◌, ℕ, Bool, true, List, [], ◌∷◌, ◌++◌, nat_lt, nat_le, min, max, if◌then◌else◌}
use Rattle.pdb_tables.specs.declared.segment.Segment.{Segment}

-- a segment clipped to the numbers from lo up to hi, as a list with one element, or empty if nothing is left of it
abbrev pub clipped : {T : Type 0} → ℕ → ℕ → Segment T → List (Segment T)
clipped lo hi segment =
    if nat_lt (max lo segment.start) (min hi segment.end)
    then (record segment { start = max lo segment.start; end = min hi segment.end }) ∷ [] else []

-- the segments clipped to the numbers from lo up to hi
abbrev pub segments_within : {T : Type 0} → ℕ → ℕ → List (Segment T) → List (Segment T)
segments_within lo hi [] = []
segments_within lo hi (segment ∷ segments) = clipped lo hi segment ++ segments_within lo hi segments

-- the segments clipped to the numbers from lo on
abbrev pub segments_from : {T : Type 0} → ℕ → List (Segment T) → List (Segment T)
segments_from lo [] = []
segments_from lo (segment ∷ segments) = clipped lo segment.end segment ++ segments_from lo segments

-- the segments from the first one on that goes past `bound`
abbrev pub going_past : {T : Type 0} → ℕ → List (Segment T) → List (Segment T)
going_past bound [] = []
going_past bound (segment ∷ segments) =
    if nat_le segment.end bound then going_past bound segments else segment ∷ segments

-- from lo on, the segments of the first list, and the parts of the second that they leave uncovered
abbrev pub overlaid : {T : Type 0} → ℕ → List (Segment T) → List (Segment T) → List (Segment T)
overlaid lo [] under = segments_from lo under
overlaid lo (top ∷ tops) under = segments_within lo top.start under ++ top ∷ overlaid top.end tops under

-- the end of the last segment; n if there is none
abbrev pub end_from : {T : Type 0} → ℕ → List (Segment T) → ℕ
end_from n [] = n
end_from n (segment ∷ segments) = end_from segment.end segments

-- the start and the end of each segment pass the test
abbrev pub HaveEdges : {T : Type 0} → (ℕ → Bool) → List (Segment T) → Type 0
HaveEdges p [] = Unit {0}
HaveEdges p (segment ∷ segments) = (p segment.start ≡ true) × (p segment.end ≡ true) × HaveEdges p segments
