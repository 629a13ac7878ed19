-- What `segments_within`, `going_past` and `overlaid` make of segments in order.
use Rattle.std.proofs.Common.{◌≡◌, ℕ, ◌<◌, ◌≤◌, List, [], ◌∷◌, ◌++◌, min, max, append_assoc, refl, ◌∙◌, arith, inl, inr}
use Rattle.std.proofs.lemmas.List.{append-nil}
use Rattle.std.proofs.lemmas.Bool.{cases_lt, le-ltb, lt-leb, le-leb}
use Rattle.pdb_tables.specs.declared.segment.Segment.{Segment}
use Rattle.pdb_tables.specs.Segments.{IsOrderedFrom}
use Rattle.pdb_tables.specs.Painting.{clipped, segments_within, segments_from, going_past, overlaid}
use Rattle.pdb_tables.proofs.SegmentLemmas.{ordered_rest}

-- of a segment nothing is left where the range ends by its start
pub clipped_before : {T : Type 0} (lo hi : ℕ) (s : Segment T) → hi ≤ s.start → clipped lo hi s ≡ []
clipped_before lo hi s before = rw (le-ltb (max lo s.start) (min hi s.end) (omega arith))

-- of a segment nothing is left where the range begins at its end or later
pub clipped_past : {T : Type 0} (lo hi : ℕ) (s : Segment T) → s.end ≤ lo → clipped lo hi s ≡ []
clipped_past lo hi s past = rw (le-ltb (max lo s.start) (min hi s.end) (omega arith))

-- segments that begin at hi or later have nothing before hi
pub segments_before : {T : Type 0} (n lo hi : ℕ) (ss : List (Segment T)) → hi ≤ n → IsOrderedFrom n ss
    → segments_within lo hi ss ≡ []
segments_before n lo hi [] past ordered = refl
segments_before n lo hi (s ∷ ss) past ordered =
    rw (clipped_before lo hi s (omega arith), segments_before s.end lo hi ss (omega arith) ordered.2)

-- the segments that go past a bound are in order
pub ordered_going_past : {T : Type 0} (n bound : ℕ) (ss : List (Segment T)) → IsOrderedFrom n ss
    → IsOrderedFrom n (going_past bound ss)
ordered_going_past n bound [] ordered = tt
ordered_going_past n bound (s ∷ ss) ordered =
    elim (cases_lt bound s.end) [
      | inl past ↦ rw (lt-leb s.end bound past) ordered
      | inr ended ↦ rw (le-leb s.end bound ended) (ordered_going_past n bound ss (ordered_rest n s ss ordered))
    ]

-- segments that end by a bound have nothing past it
segments_within-going_past : {T : Type 0} (bound lo hi : ℕ) (ss : List (Segment T)) → bound ≤ lo
    → segments_within lo hi (going_past bound ss) ≡ segments_within lo hi ss
segments_within-going_past bound lo hi [] from = refl
segments_within-going_past bound lo hi (s ∷ ss) from =
    elim (cases_lt bound s.end) [
      | inl past ↦ rw (lt-leb s.end bound past)
      | inr ended ↦ rw (le-leb s.end bound ended, clipped_past lo hi s (omega arith))
          (segments_within-going_past bound lo hi ss from)
    ]

segments_from-going_past : {T : Type 0} (bound lo : ℕ) (ss : List (Segment T)) → bound ≤ lo
    → segments_from lo (going_past bound ss) ≡ segments_from lo ss
segments_from-going_past bound lo [] from = refl
segments_from-going_past bound lo (s ∷ ss) from =
    elim (cases_lt bound s.end) [
      | inl past ↦ rw (lt-leb s.end bound past)
      | inr ended ↦ rw (le-leb s.end bound ended, clipped_past lo s.end s (omega arith))
          (segments_from-going_past bound lo ss from)
    ]

-- segments that end by a bound leave nothing past it
pub overlaid-going_past : {T : Type 0} (bound lo : ℕ) (tops under : List (Segment T)) → bound ≤ lo
    → IsOrderedFrom lo tops
    → overlaid lo tops (going_past bound under) ≡ overlaid lo tops under
overlaid-going_past bound lo [] under from ordered = segments_from-going_past bound lo under from
overlaid-going_past bound lo (top ∷ tops) under from ordered =
    rw (
      segments_within-going_past bound lo top.start under from,
      overlaid-going_past bound top.end tops under (omega arith) ordered.2,
    )

-- where the first segment goes past hi, only that one has numbers before hi
pub segments_within_first : {T : Type 0} (lo hi : ℕ) (s : Segment T) (ss : List (Segment T)) → hi < s.end
    → IsOrderedFrom 0 (s ∷ ss)
    → segments_within lo hi (s ∷ ss) ≡ clipped lo hi s
segments_within_first lo hi s ss past ordered = rw (segments_before s.end lo hi ss (omega arith) ordered.2)
    (append-nil (clipped lo hi s))

-- one segment more is laid on top
pub overlaid_step : {T : Type 0} (from : ℕ) (all tops rest whole : List (Segment T)) (top : Segment T)
    → IsOrderedFrom from (top ∷ tops)
    → all ++ overlaid from (top ∷ tops) rest ≡ whole
    → ((all ++ segments_within from top.start rest) ++ top ∷ []) ++ overlaid top.end tops (going_past top.start rest)
    ≡ whole
overlaid_step from all tops rest whole top ordered e =
    rw (overlaid-going_past top.start top.end tops rest (omega arith) ordered.2)
    (append_assoc (all ++ segments_within from top.start rest) (top ∷ []) (overlaid top.end tops rest)
    ∙ append_assoc all (segments_within from top.start rest) (top ∷ overlaid top.end tops rest) ∙ e)
