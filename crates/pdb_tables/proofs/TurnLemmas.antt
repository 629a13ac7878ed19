-- Segments that are painted one after the other.
use Rattle.std.proofs.Common.{◌≡◌, ℕ, ◌<◌, Bool, true, List, [], ◌∷◌, ◌++◌, reverse, min, max, Option, Some, None}
use Rattle.std.proofs.Common.{if◌then◌else◌, refl, sym, ◌∙◌, subst, arith, inl, inr}
use Rattle.std.specs.Option.{option_or}
use Rattle.std.proofs.lemmas.Bool.{cases_lt, lt-ltb, le-ltb, le-leb}
use Rattle.std.proofs.lemmas.Grind.{reverse_onto}
use Rattle.pdb_tables.specs.declared.segment.Segment.{Segment}
use Rattle.pdb_tables.specs.RangeSet.{is_within}
use Rattle.pdb_tables.specs.Segments.{painted, painted_in_turn, value_at, IsOrderedFrom}
use Rattle.pdb_tables.specs.Painting.{clipped, segments_within, segments_from, overlaid, HaveEdges}
use Rattle.pdb_tables.proofs.SegmentLemmas.{first_or, value_at-append}
use Rattle.pdb_tables.proofs.OverlaidLemmas.{value_at-overlaid}

-- of three values the first that is there
option_or_assoc : {T : Type 0} (a b c : Option T) → option_or (option_or a b) c ≡ option_or a (option_or b c)
option_or_assoc None b c = refl
option_or_assoc (Some value) b c = refl

-- one list is painted, and then another
painted_in_turn-append : {T : Type 0} (a b : List (Segment T)) (before : Option T) (x : ℕ)
    → painted_in_turn (a ++ b) before x ≡ painted_in_turn b (painted_in_turn a before x) x
painted_in_turn-append [] b before x = refl
painted_in_turn-append (s ∷ a) b before x = painted_in_turn-append a b (painted s.start s.end s.value before x) x

-- one more segment is painted over what was there
pub painted_in_turn-push : {T : Type 0} (ss : List (Segment T)) (s : Segment T) (before : Option T) (x : ℕ)
    → painted_in_turn (ss ++ s ∷ []) before x ≡ painted s.start s.end s.value (painted_in_turn ss before x) x
painted_in_turn-push ss s before x = painted_in_turn-append ss (s ∷ []) before x

-- what is painted comes before what was there
painted_in_turn-over : {T : Type 0} (ss : List (Segment T)) (before : Option T) (x : ℕ)
    → painted_in_turn ss before x ≡ option_or (painted_in_turn ss None x) before
painted_in_turn-over [] before x = refl
painted_in_turn-over (s ∷ ss) before x =
    let first = is_within s.start s.end x in
    rw (
      painted_in_turn-over ss (if first then Some s.value else before) x,
      painted_in_turn-over ss (if first then Some s.value else None) x,
      option_or_assoc (painted_in_turn ss None x) (if first then Some s.value else None) before,
      ← first_or first s.value None before,
    )

-- what the later half of a list makes, laid over what the earlier half makes, gives the values that all make
pub value_at-halves : {T : Type 0} (x : ℕ) (all earlier later tops under : List (Segment T)) → all ≡ earlier ++ later
    → IsOrderedFrom 0 tops → value_at tops x ≡ painted_in_turn later None x
    → value_at under x ≡ painted_in_turn earlier None x
    → value_at (overlaid 0 tops under) x ≡ painted_in_turn all None x
value_at-halves x all earlier later tops under is ordered over below =
    value_at-overlaid 0 x tops under ordered
    ∙ rw (le-leb 0 x (omega arith), over, below, is, painted_in_turn-append earlier later None x)
    (sym (painted_in_turn-over later (painted_in_turn earlier None x) x))

-- the last segment that is painted over a number gives its value
pub painted_in_turn-last : {T : Type 0} (ss : List (Segment T)) (x : ℕ)
    → painted_in_turn ss None x ≡ value_at (reverse ss) x
painted_in_turn-last [] x = refl
painted_in_turn-last (s ∷ ss) x =
    rw (
      painted_in_turn-over ss (painted s.start s.end s.value None x) x,
      painted_in_turn-last ss x,
      reverse_onto ss s [],
      value_at-append (reverse ss) (s ∷ []) x,
    )

-- of two numbers that pass a test the greater does too
max_passes : (p : ℕ → Bool) (lo n : ℕ) → (0 < lo → p lo ≡ true) → p n ≡ true → p (max lo n) ≡ true
max_passes p lo n at_lo at_n =
    elim (cases_lt n lo) [
      | inl below ↦ let e : max lo n ≡ lo = omega arith in rw e (at_lo (omega arith))
      | inr from ↦ let e : max lo n ≡ n = omega arith in rw e at_n
    ]

-- and the lower one
min_passes : (p : ℕ → Bool) (hi n : ℕ) → p hi ≡ true → p n ≡ true → p (min hi n) ≡ true
min_passes p hi n at_hi at_n =
    elim (cases_lt n hi) [
      | inl below ↦ let e : min hi n ≡ n = omega arith in rw e at_n
      | inr from ↦ let e : min hi n ≡ hi = omega arith in rw e at_hi
    ]

-- the edges of two lists pass a test if all edges do
edges_both : {T : Type 0} (p : ℕ → Bool) (a b : List (Segment T)) → HaveEdges p a → HaveEdges p b → HaveEdges p (a ++ b)
edges_both p [] b at_a at_b = at_b
edges_both p (s ∷ a) b at_a at_b = (at_a.0, at_a.1, edges_both p a b at_a.2 at_b)

edges_first : {T : Type 0} (p : ℕ → Bool) (a b : List (Segment T)) → HaveEdges p (a ++ b) → HaveEdges p a
edges_first p [] b at_all = tt
edges_first p (s ∷ a) b at_all = (at_all.0, at_all.1, edges_first p a b at_all.2)

edges_second : {T : Type 0} (p : ℕ → Bool) (a b : List (Segment T)) → HaveEdges p (a ++ b) → HaveEdges p b
edges_second p [] b at_all = at_all
edges_second p (s ∷ a) b at_all = edges_second p a b at_all.2

-- a segment that is cut has no other edges than its own and those of the range
edges_clipped : {T : Type 0} (p : ℕ → Bool) (lo hi : ℕ) (s : Segment T) → (0 < lo → p lo ≡ true) → p hi ≡ true
    → p s.start ≡ true → p s.end ≡ true → HaveEdges p (clipped lo hi s)
edges_clipped p lo hi s at_lo at_hi at_start at_end =
    elim (cases_lt (max lo s.start) (min hi s.end)) [
      | inl some ↦ rw (lt-ltb (max lo s.start) (min hi s.end) some)
          (max_passes p lo s.start at_lo at_start, min_passes p hi s.end at_hi at_end, tt)
      | inr none ↦ rw (le-ltb (max lo s.start) (min hi s.end) none) tt
    ]

edges_segments_within : {T : Type 0} (p : ℕ → Bool) (lo hi : ℕ) (ss : List (Segment T)) → (0 < lo → p lo ≡ true)
    → p hi ≡ true
    → HaveEdges p ss → HaveEdges p (segments_within lo hi ss)
edges_segments_within p lo hi [] at_lo at_hi at_all = tt
edges_segments_within p lo hi (s ∷ ss) at_lo at_hi at_all =
    edges_both p (clipped lo hi s) (segments_within lo hi ss) (edges_clipped p lo hi s at_lo at_hi at_all.0 at_all.1)
    (edges_segments_within p lo hi ss at_lo at_hi at_all.2)

edges_segments_from : {T : Type 0} (p : ℕ → Bool) (lo : ℕ) (ss : List (Segment T)) → (0 < lo → p lo ≡ true)
    → HaveEdges p ss
    → HaveEdges p (segments_from lo ss)
edges_segments_from p lo [] at_lo at_all = tt
edges_segments_from p lo (s ∷ ss) at_lo at_all =
    edges_both p (clipped lo s.end s) (segments_from lo ss) (edges_clipped p lo s.end s at_lo at_all.1 at_all.0 at_all.1)
    (edges_segments_from p lo ss at_lo at_all.2)

-- segments that are laid over others have no new edges
edges_overlaid : {T : Type 0} (p : ℕ → Bool) (lo : ℕ) (tops under : List (Segment T)) → (0 < lo → p lo ≡ true)
    → HaveEdges p tops → HaveEdges p under → HaveEdges p (overlaid lo tops under)
edges_overlaid p lo [] under at_lo over below = edges_segments_from p lo under at_lo below
edges_overlaid p lo (top ∷ tops) under at_lo over below =
    edges_both p (segments_within lo top.start under) (top ∷ overlaid top.end tops under)
    (edges_segments_within p lo top.start under at_lo over.0 below)
    (over.0, over.1, edges_overlaid p top.end tops under (λ _. over.1) over.2 below)

-- nor have those that the halves of a list make
pub edges_halves : {T : Type 0} (p : ℕ → Bool) (all earlier later tops under : List (Segment T))
    → all ≡ earlier ++ later
    → (HaveEdges p later → HaveEdges p tops) → (HaveEdges p earlier → HaveEdges p under) → HaveEdges p all
    → HaveEdges p (overlaid 0 tops under)
edges_halves p all earlier later tops under is over below at_all =
    let at_both = subst (λ ss. HaveEdges p ss) is at_all in
    edges_overlaid p 0 tops under (λ some. absurd (omega arith)) (over (edges_second p earlier later at_both))
    (below (edges_first p earlier later at_both))
