-- What is read of members and of elements.
use Rattle.std.proofs.Common.{◌≡◌, ◌∙◌, ℕ, zero, suc, ◌+◌, List, ◌∷◌, refl, sym, ap, arith}
use Rattle.std.specs.Prelude.{None, Result, Ok, Err, unwrap_or, decimal}
use Rattle.serde_json.specs.Data.{Data, null, Items, no_items, item, Members, object, put}
use Rattle.serde_json.specs.Find.{get}
use Rattle.serde_json.proofs.Views.{get_member-put_other}
use Rattle.pdb_json_values.specs.RecordFault.{Fault, inside, read_inside, ◌>>=◌}
use Rattle.pdb_json_records.specs.Members.{member_of, optional_of, all_from}
use Rattle.pdb_json.specs.MemberLaws.{IsInMember, IsInElement}

-- what is nothing where it is read as null is nothing in an object that has null in its place, or has it not
pub nothing_under : {X : Type 0} (read : Data → Result X Fault) (name : List ℕ) (d : Data)
    → unwrap_or (get name d) null ≡ null → member_of name (optional_of read) d ≡ Ok None
unfolding member_of optional_of
nothing_under read name d is = rw is refl

-- a member of another name is passed over
pub passed_over : {X : Type 0} (read : Data → Result X Fault) (name other : List ℕ) (value : Data) (members : Members)
    → (name ≡ other → ⊥) → member_of name read (object (put other value members)) ≡ member_of name read (object members)
unfolding member_of
passed_over read name other value members differs =
    ap (λ found. read_inside name (read (unwrap_or found null))) (get_member-put_other name other value members differs)

-- a fault of a member lies in its value
pub in_member : {X : Type 0} (read : Data → Result X Fault) (name : List ℕ) (d : Data) (fault : Fault)
    → member_of name read d ≡ Err fault → IsInMember read name d fault
unfolding member_of
in_member {X} read name d fault is = by_read (read (unwrap_or (get name d) null)) refl is where
  by_read : (r : Result X Fault) → read (unwrap_or (get name d) null) ≡ r → read_inside name r ≡ Err fault
      → IsInMember read name d fault
  by_read (Ok x) here none = absurd cc
  by_read (Err own) here refused = let same : inside name own ≡ fault = cc in
      record { own = own; refused = here; path = sym same }

-- a fault of an element after the first is that of an element
in_later_element : {X : Type 0} (read : Data → Result X Fault) (first : ℕ) (d : Data) (ds : Items) (fault : Fault)
    → IsInElement read (first + 1) ds fault → IsInElement read first (item d ds) fault
in_later_element read first d ds fault is = record {
  number = suc is.number;
  element = is.element;
  there = is.there;
  own = is.own;
  refused = is.refused;
  path = is.path ∙ ap (λ n. inside (decimal n) is.own) (omega arith);
}

-- a fault of the rest is that of what stands after an element
of_rest : {X : Type 0} (x : X) (rest : Result (List X) Fault) (fault : Fault)
    → (rest >>= λ xs. Ok (x ∷ xs)) ≡ Err fault → rest ≡ Err fault
of_rest x (Ok xs) fault none = absurd cc
of_rest x (Err own) fault refused = let same : own ≡ fault = cc in ap (λ f. Err f) same

-- a fault of elements lies in the first, or in one of the rest
in_first_or_rest : {X : Type 0} (read : Data → Result X Fault) (first : ℕ) (d : Data) (ds : Items) (fault : Fault)
    → (all_from (first + 1) read ds ≡ Err fault → IsInElement read (first + 1) ds fault)
    → (r : Result X Fault) → read d ≡ r
    → (read_inside (decimal first) r >>= λ x. all_from (first + 1) read ds >>= λ xs. Ok (x ∷ xs)) ≡ Err fault
    → IsInElement read first (item d ds) fault
in_first_or_rest read first d ds fault in_rest (Ok x) here refused =
    in_later_element read first d ds fault (in_rest (of_rest x (all_from (first + 1) read ds) fault refused))
in_first_or_rest read first d ds fault in_rest (Err own) here refused =
    let same : inside (decimal first) own ≡ fault = cc in
    record {
      number = zero;
      element = d;
      there = refl;
      own = own;
      refused = here;
      path = sym same ∙ ap (λ n. inside (decimal n) own) (omega arith);
    }

-- a fault of elements lies in one of them
pub in_element : {X : Type 0} (read : Data → Result X Fault) (first : ℕ) (ds : Items) (fault : Fault)
    → all_from first read ds ≡ Err fault → IsInElement read first ds fault
in_element read first no_items fault is = absurd cc
in_element read first (item d ds) fault is =
    in_first_or_rest read first d ds fault (in_element read (first + 1) ds fault) (read d) refl is
