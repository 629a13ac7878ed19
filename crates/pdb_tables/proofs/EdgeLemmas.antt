-- Segments in order whose edges are edges of a list are at most two for each segment of the list.
use Rattle.std.proofs.Common.{◌≡◌, ℕ, ◌+◌, ◌*◌, ◌≤◌, Bool, true, false, ◌||◌, eqb, eq-eqb, List, [], ◌∷◌, length}
use Rattle.std.proofs.Common.{if◌then◌else◌, refl, arith, inl, inr}
use Rattle.std.specs.Prelude.{nat_le}
use Rattle.std.proofs.lemmas.Bool.{cases_lt, lt-leb, le-leb, eqb-true, or_cases, or_left, or_right}
use Rattle.pdb_tables.specs.declared.segment.Segment.{Segment}
use Rattle.pdb_tables.specs.Segments.{IsOrderedFrom}
use Rattle.pdb_tables.specs.Painting.{HaveEdges}

-- the starts and the ends of segments
abbrev edges_of : {T : Type 0} → List (Segment T) → List ℕ
edges_of [] = []
edges_of (s ∷ ss) = s.start ∷ s.end ∷ edges_of ss

-- whether a number is in a list
abbrev is_in : List ℕ → ℕ → Bool
is_in [] x = false
is_in (y ∷ ys) x = eqb x y || is_in ys x

-- 1 for a number from n on, and 0 for one below it
abbrev one_from : ℕ → ℕ → ℕ
one_from n y = if nat_le n y then 1 else 0

-- how many numbers of a list are n or greater
abbrev count_from : ℕ → List ℕ → ℕ
count_from n [] = 0
count_from n (y ∷ ys) = one_from n y + count_from n ys

-- the edges of segments are among their edges
edges_in : {T : Type 0} (p : ℕ → Bool) (ss : List (Segment T)) → ((x : ℕ) → is_in (edges_of ss) x ≡ true → p x ≡ true)
    → HaveEdges p ss
edges_in p [] all = tt
edges_in p (s ∷ ss) all = (
  all s.start (or_left (eqb s.start s.start) (eqb s.start s.end || is_in (edges_of ss) s.start)
      (eq-eqb s.start s.start refl)),
  all s.end (or_right (eqb s.end s.start) (eqb s.end s.end || is_in (edges_of ss) s.end)
      (or_left (eqb s.end s.end) (is_in (edges_of ss) s.end) (eq-eqb s.end s.end refl))),
  edges_in p ss (λ x inside. all x (or_right (eqb x s.start) (eqb x s.end || is_in (edges_of ss) x)
      (or_right (eqb x s.end) (is_in (edges_of ss) x) inside))),
)

-- segments have two edges each
length-edges_of : {T : Type 0} (ss : List (Segment T)) → length (edges_of ss) ≡ 2 * length ss
length-edges_of [] = refl
length-edges_of (s ∷ ss) = omega (arith, length-edges_of ss)

-- a number is counted at most once
one_at_most : (n y : ℕ) → one_from n y ≤ 1
one_at_most n y = elim (cases_lt y n) [
  | inl below ↦ rw (lt-leb n y below) (omega arith)
  | inr from ↦ rw (le-leb n y from) (omega arith)
]

-- from a later number on no more are counted
one_later : (m n y : ℕ) → m ≤ n → one_from n y ≤ one_from m y
one_later m n y later = elim (cases_lt y m) [
  | inl below ↦ rw (lt-leb n y (omega arith), lt-leb m y below) (omega arith)
  | inr from ↦ let most = one_at_most n y in rw (le-leb m y from) most
]

-- past a number itself one less is counted
one_past : (x y : ℕ) → eqb x y ≡ true → one_from (x + 1) y + 1 ≤ one_from x y
one_past x y is = let same : x ≡ y = eqb-true x y is in rw (lt-leb (x + 1) y (omega arith), le-leb x y (omega arith))
    (omega arith)

count_later : (m n : ℕ) (ys : List ℕ) → m ≤ n → count_from n ys ≤ count_from m ys
count_later m n [] later = omega arith
count_later m n (y ∷ ys) later = omega (arith, one_later m n y later, count_later m n ys later)

count_at_most : (n : ℕ) (ys : List ℕ) → count_from n ys ≤ length ys
count_at_most n [] = omega arith
count_at_most n (y ∷ ys) = omega (arith, one_at_most n y, count_at_most n ys)

count_past : (x : ℕ) (ys : List ℕ) → is_in ys x ≡ true → count_from (x + 1) ys + 1 ≤ count_from x ys
count_past x [] inside = absurd cc
count_past x (y ∷ ys) inside = elim (or_cases (eqb x y) (is_in ys x) inside) [
  | inl here ↦ omega (arith, one_past x y here, count_later x (x + 1) ys (omega arith))
  | inr there ↦ omega (arith, one_later x (x + 1) y (omega arith), count_past x ys there)
]

-- segments in order are no more than the numbers that they may start at
length_by_count : {T : Type 0} (n : ℕ) (ys : List ℕ) (ss : List (Segment T)) → IsOrderedFrom n ss
    → HaveEdges (is_in ys) ss
    → length ss ≤ count_from n ys
length_by_count n ys [] ordered edges = omega arith
length_by_count n ys (s ∷ ss) ordered edges =
    omega (
      arith,
      length_by_count s.end ys ss ordered.2 edges.2,
      count_later (s.start + 1) s.end ys (omega arith),
      count_past s.start ys edges.0,
      count_later n s.start ys ordered.0,
    )

-- segments in order that have no edges but those of a list are at most two for each segment of the list
pub length_by_edges : {T U : Type 0} (all : List (Segment T)) (made : List (Segment U)) → IsOrderedFrom 0 made
    → ((p : ℕ → Bool) → HaveEdges p all → HaveEdges p made) → length made ≤ 2 * length all
length_by_edges all made ordered edges =
    omega (
      arith,
      length_by_count 0 (edges_of all) made ordered
          (edges (is_in (edges_of all)) (edges_in (is_in (edges_of all)) all (λ x inside. inside))),
      count_at_most 0 (edges_of all),
      length-edges_of all,
    )
