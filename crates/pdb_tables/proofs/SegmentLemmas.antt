-- Which values lists of segments give, and what leaves them in order.
use Rattle.std.proofs.Common.{◌≡◌, ℕ, zero, suc, ◌+◌, ◌<◌, ◌≤◌, Bool, true, false, List, [], ◌∷◌, ◌++◌, drop, get_or}
use Rattle.std.proofs.Common.{length, Option, Some, None, if◌then◌else◌, refl, sym, ◌∙◌, ap, arith, inl, inr}
use Rattle.std.specs.Option.{option_or, option_map_or}
use Rattle.std.specs.List.{slice_get}
use Rattle.std.proofs.lemmas.Bool.{cases_lt}
use Rattle.std.proofs.lemmas.List.{drop_more}
use Rattle.pdb_tables.specs.declared.segment.Segment.{Segment}
use Rattle.pdb_tables.specs.RangeSet.{is_within}
use Rattle.pdb_tables.specs.Segments.{painted, value_at, IsOrderedFrom}
use Rattle.pdb_tables.specs.Painting.{end_from}
use Rattle.pdb_tables.proofs.HasLemmas.{within_below, within_above}

-- a list from a place on is the element there and the list from the next place on
pub drop_is : {T : Type 0} (i : ℕ) (xs : List T) (x : T) → x ≡ get_or xs i x → i < length xs
    → drop i xs ≡ x ∷ drop (i + 1) xs
drop_is i xs x is within = drop_more xs i x within ∙ ap (λ y. y ∷ drop (i + 1) xs) (sym is)

-- segments in order from n on are in order from any lower number on
pub ordered_lower : {T : Type 0} (m n : ℕ) (ss : List (Segment T)) → m ≤ n → IsOrderedFrom n ss → IsOrderedFrom m ss
ordered_lower m n [] lower ordered = tt
ordered_lower m n (s ∷ ss) lower ordered = (omega arith, ordered.1, ordered.2)

-- the segments after the first are in order from where it begins on
pub ordered_rest : {T : Type 0} (n : ℕ) (s : Segment T) (ss : List (Segment T)) → IsOrderedFrom n (s ∷ ss)
    → IsOrderedFrom n ss
ordered_rest n s ss ordered = ordered_lower n s.end ss (omega arith) ordered.2

-- nothing comes behind no value
pub option_or-None : {T : Type 0} (value : Option T) → option_or value None ≡ value
option_or-None None = refl
option_or-None (Some value) = refl

-- the first value that is there, from the left or from the right
pub first_or : {T : Type 0} (over : Bool) (value : T) (a b : Option T)
    → (if over then Some value else option_or a b) ≡ option_or (if over then Some value else a) b
first_or true value a b = refl
first_or false value a b = refl

-- a list that begins with another gives the value of that one, or else of the rest
pub value_at-append : {T : Type 0} (a b : List (Segment T)) (x : ℕ)
    → value_at (a ++ b) x ≡ option_or (value_at a x) (value_at b x)
value_at-append [] b x = refl
value_at-append (s ∷ a) b x =
    rw (value_at-append a b x) (first_or (is_within s.start s.end x) s.value (value_at a x) (value_at b x))

-- a number below the first segment has no value
pub value_below : {T : Type 0} (x n : ℕ) (ss : List (Segment T)) → x < n → IsOrderedFrom n ss → value_at ss x ≡ None
value_below x n [] below ordered = refl
value_below x n (s ∷ ss) below ordered =
    rw (within_below s.start s.end x (omega arith), value_below x s.end ss (omega arith) ordered.2)

-- the last segment ends no lower than the first number that it may begin at
end_no_lower : {T : Type 0} (n : ℕ) (ss : List (Segment T)) → IsOrderedFrom n ss → n ≤ end_from n ss
end_no_lower n [] ordered = omega arith
end_no_lower n (s ∷ ss) ordered = omega (arith, end_no_lower s.end ss ordered.2)

-- from where the last segment ends on no number has a value
value_past : {T : Type 0} (x n : ℕ) (ss : List (Segment T)) → end_from n ss ≤ x → IsOrderedFrom n ss
    → value_at ss x ≡ None
value_past x n [] past ordered = refl
value_past x n (s ∷ ss) past ordered =
    rw (within_above s.start s.end x (omega (arith, end_no_lower s.end ss ordered.2)))
    (value_past x s.end ss past ordered.2)

-- a segment past the last one may come behind it
pub ordered_push : {T : Type 0} (n : ℕ) (ss : List (Segment T)) (top : Segment T) → end_from n ss ≤ top.start
    → top.start < top.end
    → IsOrderedFrom n ss → IsOrderedFrom n (ss ++ top ∷ [])
ordered_push n [] top past some ordered = (past, some, tt)
ordered_push n (s ∷ ss) top past some ordered = (ordered.0, ordered.1, ordered_push s.end ss top past some ordered.2)

-- and gives its numbers its value
pub value_at-push : {T : Type 0} (x n : ℕ) (ss : List (Segment T)) (top : Segment T) → end_from n ss ≤ top.start
    → IsOrderedFrom n ss
    → value_at (ss ++ top ∷ []) x ≡ painted top.start top.end top.value (value_at ss x) x
value_at-push x n ss top past ordered =
    rw (value_at-append ss (top ∷ []) x) (elim (cases_lt x top.start) [
      | inl before ↦ rw (within_below top.start top.end x before) (option_or-None (value_at ss x))
      | inr begun ↦ rw (value_past x n ss (omega arith) ordered)
    ])

-- the end of the last element of a list of segments
pub end_from-last : {T : Type 0} (n i : ℕ) (ss : List (Segment T)) (last : Segment T) → slice_get ss i ≡ Some last
    → length ss ≡ i + 1
    → end_from n ss ≡ last.end
end_from-last n i [] last is len = absurd (omega arith)
end_from-last n zero (s ∷ []) last is len = ap (λ o. option_map_or (λ t. t.end) o 0) is
end_from-last n zero (s ∷ t ∷ ss) last is len = absurd (omega arith)
end_from-last n (suc i) (s ∷ []) last is len = absurd (omega arith)
end_from-last n (suc i) (s ∷ t ∷ ss) last is len = end_from-last s.end i (t ∷ ss) last is (omega arith)
