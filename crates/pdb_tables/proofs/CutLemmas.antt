-- How many segments are left of those that others are laid over.
use Rattle.std.proofs.Common.{◌≡◌, ℕ, ◌+◌, ◌*◌, ◌<◌, ◌≤◌, List, [], ◌∷◌, length, length-append, min, max, arith, inl}
use Rattle.std.proofs.Common.{inr}
use Rattle.std.proofs.lemmas.Bool.{cases_lt, lt-ltb, le-ltb}
use Rattle.std.proofs.lemmas.List.{append-nil}
use Rattle.pdb_tables.specs.declared.segment.Segment.{Segment}
use Rattle.pdb_tables.specs.Segments.{IsOrderedFrom}
use Rattle.pdb_tables.specs.Painting.{clipped, segments_within, segments_from, overlaid}
use Rattle.pdb_tables.proofs.PaintingLemmas.{clipped_past, segments_before}

-- a segment that is cut is at most one segment
length-clipped : {T : Type 0} (lo hi : ℕ) (s : Segment T) → length (clipped lo hi s) ≤ 1
length-clipped lo hi s =
    elim (cases_lt (max lo s.start) (min hi s.end)) [
      | inl some ↦ rw (lt-ltb (max lo s.start) (min hi s.end) some) (omega arith)
      | inr none ↦ rw (le-ltb (max lo s.start) (min hi s.end) none) (omega arith)
    ]

-- of a segment that goes past a number one segment is left from there on
length-clipped_from : {T : Type 0} (lo : ℕ) (s : Segment T) → lo < s.end → s.start < s.end → length (clipped lo s.end s) ≡ 1
length-clipped_from lo s past some = rw (lt-ltb (max lo s.start) (min s.end s.end) (omega arith))

-- of a segment no more is left up to a number than in all
length-clipped_to : {T : Type 0} (lo hi : ℕ) (s : Segment T) → length (clipped lo hi s) ≤ length (clipped lo s.end s)
length-clipped_to lo hi s =
    elim (cases_lt (max lo s.start) (min s.end s.end)) [
      | inl some ↦ let one = length-clipped lo hi s in rw (lt-ltb (max lo s.start) (min s.end s.end) some) one
      | inr none ↦ rw (
        le-ltb (max lo s.start) (min s.end s.end) none,
        le-ltb (max lo s.start) (min hi s.end)
            (omega arith),
      ) (omega arith)
    ]

-- of a segment no more is left from a later number on
length-clipped_later : {T : Type 0} (lo hi : ℕ) (s : Segment T) → lo ≤ hi
    → length (clipped hi s.end s) ≤ length (clipped lo s.end s)
length-clipped_later lo hi s later =
    elim (cases_lt (max lo s.start) (min s.end s.end)) [
      | inl some ↦ let one = length-clipped hi s.end s in rw (lt-ltb (max lo s.start) (min s.end s.end) some) one
      | inr none ↦ rw (
        le-ltb (max lo s.start) (min s.end s.end) none,
        le-ltb (max hi s.start) (min s.end s.end)
            (omega arith),
      ) (omega arith)
    ]

-- of segments no more are left from a later number on
length-segments_later : {T : Type 0} (lo hi : ℕ) (ss : List (Segment T)) → lo ≤ hi
    → length (segments_from hi ss) ≤ length (segments_from lo ss)
length-segments_later lo hi [] later = omega arith
length-segments_later lo hi (s ∷ ss) later =
    simp length-append (omega (arith, length-clipped_later lo hi s later, length-segments_later lo hi ss later))

-- of segments no more are left than they are
length-segments_from : {T : Type 0} (lo : ℕ) (ss : List (Segment T)) → length (segments_from lo ss) ≤ length ss
length-segments_from lo [] = omega arith
length-segments_from lo (s ∷ ss) = simp length-append (omega (arith, length-clipped lo s.end s, length-segments_from lo ss))

-- a number cuts at most one segment in two
length-cut : {T : Type 0} (k lo hi : ℕ) (ss : List (Segment T)) → lo ≤ hi → IsOrderedFrom k ss
    → length (segments_within lo hi ss) + length (segments_from hi ss) ≤ length (segments_from lo ss) + 1
length-cut k lo hi [] some ordered = omega arith
length-cut k lo hi (s ∷ ss) some ordered =
    elim (cases_lt hi s.end) [
      | inl past ↦ rw (segments_before s.end lo hi ss (omega arith) ordered.2) (simp (append-nil, length-append)
          (omega (
            arith,
            length-clipped lo hi s,
            length-clipped hi s.end s,
            length-clipped_from lo s (omega arith) ordered.1,
            length-segments_later lo hi ss some,
          )))
      | inr ended ↦ rw (clipped_past hi s.end s ended) (simp length-append
          (omega (arith, length-clipped_to lo hi s, length-cut s.end lo hi ss some ordered.2)))
    ]

-- segments laid over others add at most two each
pub length-overlaid : {T : Type 0} (k lo : ℕ) (tops under : List (Segment T)) → IsOrderedFrom lo tops
    → IsOrderedFrom k under
    → length (overlaid lo tops under) ≤ length (segments_from lo under) + 2 * length tops
length-overlaid k lo [] under ordered below = omega arith
length-overlaid k lo (top ∷ tops) under ordered below =
    simp length-append (omega (
      arith,
      length-cut k lo top.start under ordered.0 below,
      length-segments_later top.start top.end under (omega arith),
      length-overlaid k top.end tops under ordered.2 below,
    ))

-- one segment laid over others adds at most two
pub length-painted : {T : Type 0} (top : Segment T) (under : List (Segment T)) → top.start < top.end
    → IsOrderedFrom 0 under
    → length (overlaid 0 (top ∷ []) under) ≤ length under + 2
length-painted top under some ordered =
    omega (arith, length-overlaid 0 0 (top ∷ []) under (omega arith, some, tt) ordered, length-segments_from 0 under)
