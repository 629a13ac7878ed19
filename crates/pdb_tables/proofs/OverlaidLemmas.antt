-- Which values segments give that are laid over others, and in which order they are.
use Rattle.std.proofs.Common.{◌≡◌, ℕ, ◌<◌, ◌≤◌, Bool, true, false, ◌&&◌, List, [], ◌∷◌, ◌++◌, min, max, Option, Some}
use Rattle.std.proofs.Common.{None, if◌then◌else◌, refl, sym, ◌∙◌, arith, inl, inr}
use Rattle.std.specs.Option.{option_or}
use Rattle.std.specs.Prelude.{nat_le}
use Rattle.std.proofs.lemmas.Bool.{cases_lt, lt-ltb, le-ltb, le-leb, lt-leb}
use Rattle.std.proofs.lemmas.Bool.Decides.{nat_tests}
use Rattle.pdb_tables.specs.declared.segment.Segment.{Segment}
use Rattle.pdb_tables.specs.RangeSet.{is_within}
use Rattle.pdb_tables.specs.Segments.{painted, value_at, IsOrderedFrom}
use Rattle.pdb_tables.specs.Painting.{clipped, segments_within, segments_from, overlaid}
use Rattle.pdb_tables.proofs.HasLemmas.{within_yes, within_below, within_above}
use Rattle.pdb_tables.proofs.SegmentLemmas.{ordered_lower, option_or-None, first_or, value_at-append, value_below}

-- a number is in both ranges if it is in what they share
within_both : (lo hi start end x : ℕ)
    → is_within (max lo start) (min hi end) x ≡ (is_within lo hi x && is_within start end x)
within_both lo hi start end x = grind (arith, nat_tests)

-- ranges that share nothing have no number in common
within_neither : (lo hi start end x : ℕ) → min hi end ≤ max lo start
    → (is_within lo hi x && is_within start end x) ≡ false
within_neither lo hi start end x apart = grind (arith, nat_tests)

-- a segment that is cut to a range gives its value to the numbers in both
value_at-clipped : {T : Type 0} (lo hi x : ℕ) (s : Segment T)
    → value_at (clipped lo hi s) x ≡ (if is_within lo hi x && is_within s.start s.end x then Some s.value else None)
value_at-clipped lo hi x s =
    elim (cases_lt (max lo s.start) (min hi s.end)) [
      | inl some ↦ rw (lt-ltb (max lo s.start) (min hi s.end) some, within_both lo hi s.start s.end x)
      | inr none ↦ rw (le-ltb (max lo s.start) (min hi s.end) none, within_neither lo hi s.start s.end x none)
    ]

-- the same on both sides of a test
either : {T : Type 0} (test : Bool) (value : T) → value ≡ (if test then value else value)
either true value = refl
either false value = refl

-- of a first segment that is cut and the others the first that is there
first_clipped : {T : Type 0} (inside over : Bool) (value : T) (rest : Option T)
    → option_or (if inside && over then Some value else None) (if inside then rest else None)
    ≡ (if inside then (if over then Some value else rest) else None)
first_clipped true true value rest = refl
first_clipped true false value rest = refl
first_clipped false over value rest = refl

-- what segments have within a range gives its numbers their values
pub value_at-segments_within : {T : Type 0} (lo hi x : ℕ) (ss : List (Segment T))
    → value_at (segments_within lo hi ss) x ≡ (if is_within lo hi x then value_at ss x else None)
value_at-segments_within lo hi x [] = either (is_within lo hi x) None
value_at-segments_within lo hi x (s ∷ ss) =
    rw (
      value_at-append (clipped lo hi s) (segments_within lo hi ss) x,
      value_at-clipped lo hi x s,
      value_at-segments_within lo hi x ss,
    )
    (first_clipped (is_within lo hi x) (is_within s.start s.end x) s.value (value_at ss x))

-- a number of a segment is before its end
within_end : (lo start end x : ℕ)
    → (is_within lo end x && is_within start end x) ≡ (nat_le lo x && is_within start end x)
within_end lo start end x = grind (arith, nat_tests)

-- what segments have from a number on gives the numbers from there on their values
pub value_at-segments_from : {T : Type 0} (lo x : ℕ) (ss : List (Segment T))
    → value_at (segments_from lo ss) x ≡ (if nat_le lo x then value_at ss x else None)
value_at-segments_from lo x [] = either (nat_le lo x) None
value_at-segments_from lo x (s ∷ ss) =
    rw (
      value_at-append (clipped lo s.end s) (segments_from lo ss) x,
      value_at-clipped lo s.end x s,
      value_at-segments_from lo x ss,
      within_end lo s.start s.end x,
    )
    (first_clipped (nat_le lo x) (is_within s.start s.end x) s.value (value_at ss x))

-- from lo on, the segments on top give their values, and those below them the others
pub value_at-overlaid : {T : Type 0} (lo x : ℕ) (tops under : List (Segment T)) → IsOrderedFrom lo tops
    → value_at (overlaid lo tops under) x ≡
    (if nat_le lo x then option_or (value_at tops x) (value_at under x) else None)
value_at-overlaid lo x [] under ordered = value_at-segments_from lo x under
value_at-overlaid lo x (top ∷ tops) under ordered =
    rw (
      value_at-append (segments_within lo top.start under) (top ∷ overlaid top.end tops under) x,
      value_at-segments_within lo top.start x under,
      value_at-overlaid top.end x tops under ordered.2,
    )
    (elim (cases_lt x lo) [
      | inl below ↦ rw (
        within_below lo top.start x below,
        within_below top.start top.end x (omega arith),
        lt-leb top.end x (omega arith),
        lt-leb lo x below,
      )
      | inr from ↦ elim (cases_lt x top.start) [
        | inl before ↦ rw (
          within_yes lo top.start x from before,
          within_below top.start top.end x before,
          lt-leb top.end x (omega arith),
          value_below x top.end tops (omega arith) ordered.2,
          le-leb lo x from,
        )
            (option_or-None (value_at under x))
        | inr begun ↦ rw (within_above lo top.start x begun) (elim (cases_lt x top.end) [
          | inl inside ↦ rw (within_yes top.start top.end x begun inside, le-leb lo x from)
          | inr past ↦ rw (within_above top.start top.end x past, le-leb top.end x past, le-leb lo x from)
        ])
      ]
    ])

-- what segments have from a number on is in order
ordered_segments_from : {T : Type 0} (n k lo : ℕ) (ss : List (Segment T)) → n ≤ max lo k → IsOrderedFrom k ss
    → IsOrderedFrom n (segments_from lo ss)
ordered_segments_from n k lo [] from ordered = tt
ordered_segments_from n k lo (s ∷ ss) from ordered =
    elim (cases_lt (max lo s.start) (min s.end s.end)) [
      | inl some ↦ rw (lt-ltb (max lo s.start) (min s.end s.end) some)
          (omega arith, some, ordered_segments_from (min s.end s.end) s.end lo ss (omega arith) ordered.2)
      | inr none ↦ rw (le-ltb (max lo s.start) (min s.end s.end) none)
          (ordered_segments_from n s.end lo ss (omega arith) ordered.2)
    ]

-- what segments have within a range is in order, with segments behind it that begin at its end or later
ordered_segments_within : {T : Type 0} (n k lo hi : ℕ) (ss later : List (Segment T)) → n ≤ max lo k → n ≤ hi → lo ≤ hi
    → IsOrderedFrom k ss → IsOrderedFrom hi later → IsOrderedFrom n (segments_within lo hi ss ++ later)
ordered_segments_within n k lo hi [] later from to some ordered behind = ordered_lower n hi later to behind
ordered_segments_within n k lo hi (s ∷ ss) later from to some ordered behind =
    elim (cases_lt (max lo s.start) (min hi s.end)) [
      | inl some ↦ rw (lt-ltb (max lo s.start) (min hi s.end) some) (
        omega arith,
        some,
        ordered_segments_within (min hi s.end) s.end lo hi ss later (omega arith) (omega arith)
            (omega arith) ordered.2 behind,
      )
      | inr none ↦ rw (le-ltb (max lo s.start) (min hi s.end) none)
          (ordered_segments_within n s.end lo hi ss later (omega arith) to (omega arith) ordered.2 behind)
    ]

-- segments laid over others are in order
pub ordered_overlaid : {T : Type 0} (n k lo : ℕ) (tops under : List (Segment T)) → n ≤ lo → IsOrderedFrom lo tops
    → IsOrderedFrom k under → IsOrderedFrom n (overlaid lo tops under)
ordered_overlaid n k lo [] under from ordered below = ordered_segments_from n k lo under (omega arith) below
ordered_overlaid n k lo (top ∷ tops) under from ordered below =
    ordered_segments_within n k lo top.start under (top ∷ overlaid top.end tops under) (omega arith) (omega arith)
    (omega arith) below
    (omega arith, ordered.1, ordered_overlaid top.end k top.end tops under (omega arith) ordered.2 below)

-- one segment laid over others gives its numbers its value
pub value_at-painted : {T : Type 0} (x : ℕ) (top : Segment T) (under : List (Segment T)) → top.start < top.end
    → value_at (overlaid 0 (top ∷ []) under) x ≡ painted top.start top.end top.value (value_at under x) x
value_at-painted x top under some =
    value_at-overlaid 0 x (top ∷ []) under (omega arith, some, tt)
    ∙ rw (le-leb 0 x (omega arith)) (sym (first_or (is_within top.start top.end x) top.value None (value_at under x)))

-- one segment laid over others is in order with them
pub ordered_painted : {T : Type 0} (top : Segment T) (under : List (Segment T)) → top.start < top.end
    → IsOrderedFrom 0 under
    → IsOrderedFrom 0 (overlaid 0 (top ∷ []) under)
ordered_painted top under some ordered =
    ordered_overlaid 0 0 0 (top ∷ []) under (omega arith) (omega arith, some, tt) ordered
