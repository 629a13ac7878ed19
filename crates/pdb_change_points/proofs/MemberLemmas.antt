-- Lists with the same members.
use Rattle.std.proofs.Common.{◌≡◌, ℕ, cond, List, ◌++◌, refl, inl, inr, append_assoc}
use Rattle.std.specs.Prelude.{Contains, Result, Ok, Err, is_ok, OnOk}
use Rattle.std.proofs.lemmas.List.Elements.{Contains-append_left, Contains-append_right, Contains-append_cases}
use Rattle.pdb_change_points.specs.UniqueNumbers.{HaveSameMembers}

-- a list has its own members
pub same_members : (xs ys : List ℕ) → xs ≡ ys → HaveSameMembers xs ys
unfolding HaveSameMembers
same_members xs ys e number = rw e ((λ h. h), (λ h. h))

-- so have three lists, of which two and two have the same ones
pub members_then : (xs ys zs : List ℕ) → HaveSameMembers xs ys → HaveSameMembers ys zs → HaveSameMembers xs zs
unfolding HaveSameMembers
members_then xs ys zs first second number =
    ((λ h. (second number).0 ((first number).0 h)), (λ h. (first number).1 ((second number).1 h)))

-- members of a list in front of others, or after them
part_in : (us vs xs ys : List ℕ) → ((number : ℕ) → Contains us number → Contains vs number)
    → ((number : ℕ) → Contains xs number → Contains ys number)
    → (number : ℕ) → Contains (us ++ xs) number → Contains (vs ++ ys) number
part_in us vs xs ys front behind number h = elim (Contains-append_cases us xs number h) [
  | inl own ↦ Contains-append_left vs ys number (front number own)
  | inr other ↦ Contains-append_right vs ys number (behind number other)
]

-- lists with the same members, one after the other
pub members_append : (us vs xs ys : List ℕ) → HaveSameMembers us vs → HaveSameMembers xs ys
    → HaveSameMembers (us ++ xs) (vs ++ ys)
unfolding HaveSameMembers
members_append us vs xs ys front behind number = (
  part_in us vs xs ys (λ n. (front n).0) (λ n. (behind n).0) number,
  part_in vs us ys xs (λ n. (front n).1) (λ n. (behind n).1) number,
)

-- what was added to a list has the same members as another one, so both lists have
pub added_members : {A E : Type 0} (result : Result A E) (old new added own : List ℕ)
    → new ≡ cond (is_ok result) (old ++ added) old → HaveSameMembers added own
    → OnOk result (HaveSameMembers new (old ++ own))
added_members (Err e) old new added own is same = tt
added_members (Ok done) old new added own is same =
    members_then new (old ++ added) (old ++ own) (same_members new (old ++ added) is)
    (members_append old old added own (same_members old old refl) same)

-- a step of a loop over what is left: what was added has the same members as the first of it
pub step_members : (start old new own left all : List ℕ) → HaveSameMembers (old ++ (own ++ left)) (start ++ all)
    → HaveSameMembers new (old ++ own) → HaveSameMembers (new ++ left) (start ++ all)
step_members start old new own left all before step =
    members_then (new ++ left) ((old ++ own) ++ left) (start ++ all)
    (members_append new (old ++ own) left left step (same_members left left refl))
    (members_then ((old ++ own) ++ left) (old ++ (own ++ left)) (start ++ all)
    (same_members ((old ++ own) ++ left) (old ++ (own ++ left)) (append_assoc old own left)) before)
