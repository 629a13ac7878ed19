-- Names that are lent are those under their numbers.
use Rattle.std.proofs.Common.{◌≡◌, ◌∙◌, ℕ, List, [], ◌∷◌, Option, Some, None, sym, subst}
use Rattle.std.specs.Prelude.{◌++◌, slice_get, slice_set, option_map}
use Rattle.std.specs.BTreeMap.{BTreeMap, get}
use Rattle.std.specs.Ordering.{nat_cmp}
use Rattle.std.specs.declared.borrow.CowStr.{CowStr}
use Rattle.std.proofs.lemmas.List.Elements.{All-nil, All-same, All-set, All-get_or, All-push}
use Rattle.std.proofs.lemmas.Option.{get_or_from_slice_get, slice_get_within}
use Rattle.pdb_frames.specs.FileNames.{Strings, name_under, KnowsNames, IsLent, AreLent}
use Rattle.pdb_frames.specs.SourceFiles.{file_name_of, borrowed_name}
use Rattle.pdb_frames.specs.declared.lent_names.LentName.{LentName}

-- no name is lent
pub lent_none : (strings : Strings) (slots : List (Option LentName)) → slots ≡ [] → AreLent strings slots
unfolding AreLent
lent_none strings slots empty = All-same (IsLent strings) slots [] empty (All-nil (IsLent strings))

-- one more slot without a name
pub lent_nowhere : (strings : Strings) (slots : List (Option LentName)) → AreLent strings slots
    → AreLent strings (slots ++ None ∷ [])
unfolding AreLent
lent_nowhere strings slots are = All-push (IsLent strings) slots None are tt

-- one more name that is lent
pub lent_put : {Z : Type 0} (strings : Strings) (names : BTreeMap ℕ (CowStr Z)) (slots : List (Option LentName))
    (slot : ℕ) (lent : LentName) → KnowsNames strings names
    → option_map file_name_of (get nat_cmp names lent.number) ≡ Some (borrowed_name lent.name.now) → AreLent strings slots
    → AreLent strings (slice_set slots slot (Some lent))
unfolding AreLent
lent_put strings names slots slot lent knows got are =
    All-set (IsLent strings) slots slot (Some lent) (sym (knows lent.number) ∙ got) are

-- a name at a slot is lent
pub lent_at : (strings : Strings) (slots : List (Option LentName)) (slot : ℕ) (lent : LentName)
    → AreLent strings slots → Some (Some lent) ≡ slice_get slots slot
    → name_under strings lent.number ≡ Some (borrowed_name lent.name.now)
unfolding AreLent
lent_at strings slots slot lent are got =
    let within = slice_get_within slots slot (Some lent) (sym got) in
    let is = get_or_from_slice_get slots slot (Some lent) (Some lent) (sym got) in
    subst (λ x. IsLent strings x) is (All-get_or (IsLent strings) slots slot (Some lent) within are)
