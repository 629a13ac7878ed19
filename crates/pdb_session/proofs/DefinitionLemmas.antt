-- Types that define names, and forward references that go by them.
use Rattle.std.proofs.Common.{◌≡◌, ◌∙◌, ℕ, zero, suc, ◌+◌, ◌≤◌, ◌<◌, ◌⊎◌, inl, inr, nat_eq, Bool, true, false, List}
use Rattle.std.proofs.Common.{[], ◌∷◌, ◌++◌, drop, get_or, length, slice_get, ap, refl, sym, arith}
use Rattle.std.proofs.Math.ListN.{set}
use Rattle.std.proofs.lemmas.Bool.{and_from, and_parts, eqb-false, eqb-true, le-ltb, ltb-false, or_right}
use Rattle.std.proofs.lemmas.Option.{slice_get-get_or, slice_get_within}
use Rattle.std.proofs.lemmas.Slice.Eq.{bytes_eq-Decides}
use Rattle.std.specs.Prelude.{◌≢◌, ◌&&◌, ◌||◌, nat_lt, Option, Some, None, Result, Ok, Err, option_and_then, option_map}
use Rattle.std.specs.Prelude.{◌==◌, codes, if◌then◌else◌}
use Rattle.std.specs.BTreeSet.{BTreeSet}
use Rattle.std.specs.Global.{Vec}
use Rattle.std.specs.Option.{option_map_or}
use Rattle.std.specs.Result.{result_ok}
use Rattle.std.specs.Str.{bytes_eq}
use Rattle.pdb_records.specs.declared.error.Error.TheVariants.{UnimplementedTypeKind}
use Rattle.pdb_records.specs.declared.error.StreamError.{StreamError}
use Rattle.pdb_records.specs.declared.types.ClassKind.{ClassKind}
use Rattle.pdb_records.specs.declared.types.Item.{Item}
use Rattle.pdb_records.specs.declared.types.TypeData.{TypeData}
use Rattle.pdb_records.specs.declared.types.TypeData.TheVariants as type
use Rattle.pdb_records.specs.declared.types.TypeIndex.{TypeIndex}
use Rattle.pdb_types.specs.ForwardReferences.{Aggregate, aggregate, definition_size, entry_name, item_aggregate}
use Rattle.pdb_types.specs.ForwardReferences.{size_for}
use Rattle.pdb_msf.specs.declared.faults.TheConstants.{CUT}
use Rattle.pdb_msf.specs.Faults.{◌>>=◌}
use Rattle.pdb_msf.specs.NumberLists.{number, two_byte_number}
use Rattle.pdb_tpi.specs.AggregateLeaves.{alias, class, class2, enumerate, enumeration, is_forward_reference}
use Rattle.pdb_tpi.specs.AggregateLeaves.{newer_union, sized_names, union}
use Rattle.pdb_tpi.specs.Contents.{or_error}
use Rattle.pdb_tpi.specs.IndexLists.{index_list}
use Rattle.pdb_tpi.specs.ItemStreams.{TypeList, item_at, item_of}
use Rattle.pdb_tpi.specs.Leaves.{lf_alias, lf_arglist, lf_array, lf_bitfield, lf_class, lf_class2, lf_dimarray}
use Rattle.pdb_tpi.specs.Leaves.{lf_enum, lf_enumerate, lf_vtshape}
use Rattle.pdb_tpi.specs.Leaves.{lf_fieldlist, lf_interface, lf_interface2, lf_methodlist, lf_mfunction, lf_modifier}
use Rattle.pdb_tpi.specs.Leaves.{lf_pointer, lf_procedure, lf_structure, lf_structure2, lf_union, lf_union2, lf_vftable}
use Rattle.pdb_tpi.specs.NumericLeaves.{numeric_leaf, size_in}
use Rattle.pdb_tpi.specs.TypeNames.{name_in}
use Rattle.pdb_tpi.specs.TypePlaces.{defines_at}
use Rattle.pdb_tpi.specs.TypeRecords.{TypeBytes}
use Rattle.pdb_tpi.specs.TypeLeaves.{argument_list, array, array_size, data_of, defines, dimensioned_array}
use Rattle.pdb_tpi.specs.TypeLeaves.{is_definition, member_function}
use Rattle.pdb_tpi.specs.TypeLeaves.{modifier, pointer, pointer_mode, procedure, properties_place, type_data, type_kind}
use Rattle.pdb_tpi.specs.TypeLeaves.{types}
use Rattle.pdb_session.specs.Definitions.{AreMarked, AreNamed, defines_one, goes_by, has_name, is_settled}
use Rattle.pdb_session.specs.Definitions.{is_settled_at}

-- if a record reads as a class or a union that is no forward reference, this test is true
abbrev Defining : Result TypeData StreamError → Bool → Type 0
Defining read test = (a : Aggregate) → option_and_then aggregate (result_ok (or_error read)) ≡ Some a
    → a.forward_reference ≡ false → test ≡ true

-- the same for a record that is read in two steps, if it holds whatever the first step reads
after_first : {A : Type 0} (first : Result A StreamError) (next : A → Result TypeData StreamError) (test : Bool)
    → ((value : A) → Defining (next value) test) → Defining (first >>= next) test
after_first (Ok value) next test each a is defined = each value a is defined
after_first (Err fault) next test each a is defined = cc

-- the same for a record that may be too short, if it holds for one that isn't
where_long : (short : Bool) (read : Result TypeData StreamError) (test : Bool) → (short ≡ false → Defining read test)
    → Defining (if short then Err CUT else read) test
where_long true read test each a is defined = cc
where_long false read test each a is defined = each refl a is defined

-- if what was read is this class or union, and this is no forward reference, neither is what was read
same_reference : (read a : Aggregate) → Some read ≡ Some a → a.forward_reference ≡ false
    → read.forward_reference ≡ false
same_reference read a is defined =
    let same : read ≡ a = cc in ap (λ (other : Aggregate). other.forward_reference) same ∙ defined

-- a content as long as its fixed part defines a type if its properties are of no forward reference
has_properties : (content : List ℕ) (place front : ℕ) → place + 2 ≤ front → nat_lt (length content) front ≡ false
    → is_forward_reference (two_byte_number (drop place content)) ≡ false → defines content place ≡ true
has_properties content place front within long defined =
    let all : front ≤ length content = ltb-false (length content) front long in
    rw (le-ltb (length content) (place + 2) (omega (arith, all, within)), defined) refl

-- a class that is no forward reference has properties at 2 that say so
class_defines : (kind : ClassKind) (content : List ℕ) → Defining (class kind content) (defines content 2)
unfolding class
class_defines kind content = where_long (nat_lt (length content) 16) _ _ (λ long.
    after_first (sized_names (two_byte_number (drop 2 content)) (drop 16 content)) _ _ (λ named a is defined.
    has_properties content 2 16 (omega arith) long (same_reference _ a is defined)))

-- a class in the newer layout that is no forward reference has properties at 0 that say so
newer_class_defines : (kind : ClassKind) (content : List ℕ) → Defining (class2 kind content) (defines content 0)
unfolding class2
newer_class_defines kind content = where_long (nat_lt (length content) 18) _ _ (λ long.
    after_first (sized_names (two_byte_number content) (drop 18 content)) _ _ (λ named a is defined.
    has_properties content 0 18 (omega arith) long (same_reference _ a is defined)))

-- a union that is no forward reference has properties at 2 that say so
union_defines : (content : List ℕ) → Defining (union content) (defines content 2)
unfolding union
union_defines content = where_long (nat_lt (length content) 8) _ _ (λ long.
    after_first (sized_names (two_byte_number (drop 2 content)) (drop 8 content)) _ _ (λ named a is defined.
    has_properties content 2 8 (omega arith) long (same_reference _ a is defined)))

-- a union in the newer layout that is no forward reference has properties at 0 that say so
newer_union_defines : (content : List ℕ) → Defining (newer_union content) (defines content 0)
unfolding newer_union
newer_union_defines content = where_long (nat_lt (length content) 10) _ _ (λ long.
    after_first (sized_names (two_byte_number content) (drop 10 content)) _ _ (λ named a is defined.
    has_properties content 0 10 (omega arith) long (same_reference _ a is defined)))

-- a pointer is neither a class nor a union
pointer_defines : (content : List ℕ) → Defining (pointer content) false
unfolding pointer
pointer_defines content = where_long (nat_lt (length content) 8) _ _ (λ long.
    after_first (pointer_mode (number (drop 4 content))) _ _ (λ mode a is defined. cc))

-- a list of arguments is neither a class nor a union
argument_list_defines : (content : List ℕ) → Defining (argument_list content) false
unfolding argument_list
argument_list_defines content = after_first (index_list content) _ _ (λ arguments a is defined. cc)

-- an array is neither a class nor a union
array_defines : (content : List ℕ) → Defining (array content) false
unfolding array
array_defines content = where_long (nat_lt (length content) 8) _ _ (λ long.
    after_first (size_in (drop 8 content)) _ _ (λ size.
    after_first (array_size size.0) _ _ (λ first a is defined. cc)))

-- a value of an enumeration is neither a class nor a union
enumerate_defines : (content : List ℕ) → Defining (enumerate content) false
unfolding enumerate
enumerate_defines content = where_long (nat_lt (length content) 2) _ _ (λ long.
    after_first (numeric_leaf (drop 2 content)) _ _ (λ value.
    after_first (name_in value.1) _ _ (λ name a is defined. cc)))

-- an enumeration is neither a class nor a union
enumeration_defines : (content : List ℕ) → Defining (enumeration content) false
unfolding enumeration
enumeration_defines content = where_long (nat_lt (length content) 12) _ _ (λ long.
    after_first (name_in (drop 12 content)) _ _ (λ name a is defined. cc))

-- an alias is neither a class nor a union
alias_defines : (content : List ℕ) → Defining (alias content) false
unfolding alias
alias_defines content = where_long (nat_lt (length content) 4) _ _ (λ long.
    after_first (name_in (drop 4 content)) _ _ (λ name a is defined. cc))

-- an array with dimensions is neither a class nor a union
dimensioned_array_defines : (content : List ℕ) → Defining (dimensioned_array content) false
unfolding dimensioned_array
dimensioned_array_defines content = where_long (nat_lt (length content) 8) _ _ (λ long a is defined. cc)

-- a record that is read by its kind alone is neither a class nor a union
other_defines : (text : List ℕ) → Defining (Ok (type.Other text)) false
other_defines text a is defined = cc

-- a modifier is neither a class nor a union
modifier_defines : (content : List ℕ) → Defining (modifier content) false
unfolding modifier
modifier_defines content = where_long (nat_lt (length content) 6) _ _ (λ long a is defined. cc)

-- a function is neither a class nor a union
procedure_defines : (content : List ℕ) → Defining (procedure content) false
unfolding procedure
procedure_defines content = where_long (nat_lt (length content) 12) _ _ (λ long a is defined. cc)

-- a member function is neither a class nor a union
member_function_defines : (content : List ℕ) → Defining (member_function content) false
unfolding member_function
member_function_defines content = where_long (nat_lt (length content) 20) _ _ (λ long a is defined. cc)

-- if a record of this kind reads as a class or a union that is no forward reference, its properties say so
record Defines {K : Type 0} (data_in : K → List ℕ → Result TypeData StreamError) (place_in : K → Option ℕ) (leaf : ℕ)
    (content : List ℕ) (kind : Option K) : Type 0 where
  said : (a : Aggregate) → option_and_then aggregate (result_ok
      (option_map_or (λ k. or_error (data_in k content)) kind (Err (UnimplementedTypeKind leaf)))) ≡ Some a
      → a.forward_reference ≡ false
      → option_map_or (defines content) (option_and_then place_in kind) false ≡ true

-- a record whose kind isn't known is neither a class nor a union
no_kind : {K : Type 0} {data_in : K → List ℕ → Result TypeData StreamError} {place_in : K → Option ℕ} (leaf : ℕ)
    (content : List ℕ) → Defines data_in place_in leaf content None
no_kind leaf content = record { said = λ a is defined. cc }

-- the same by a test of the kind, if it holds for that kind and for the others
next_kind : {K : Type 0} {data_in : K → List ℕ → Result TypeData StreamError} {place_in : K → Option ℕ} {leaf : ℕ}
    {content : List ℕ} {others : Option K} (test : Bool) (kind : K)
    → Defining (data_in kind content) (option_map_or (defines content) (place_in kind) false)
    → Defines data_in place_in leaf content others
    → Defines data_in place_in leaf content (if test then Some kind else others)
next_kind true kind one rest = record { said = one }
next_kind false kind one rest = rest

-- the same for the kind of any leaf
kinds_define : (leaf : ℕ) (content : List ℕ) → Defines data_of properties_place leaf content (type_kind leaf)
kinds_define leaf content =
    next_kind (leaf == lf_modifier) _ (modifier_defines content) (
    next_kind (leaf == lf_pointer) _ (pointer_defines content) (
    next_kind (leaf == lf_procedure) _ (procedure_defines content) (
    next_kind (leaf == lf_mfunction) _ (member_function_defines content) (
    next_kind (leaf == lf_arglist) _ (argument_list_defines content) (
    next_kind (leaf == lf_enumerate) _ (enumerate_defines content) (
    next_kind (leaf == lf_array) _ (array_defines content) (
    next_kind (leaf == lf_class) _ (class_defines _ content) (
    next_kind (leaf == lf_structure) _ (class_defines _ content) (
    next_kind (leaf == lf_interface) _ (class_defines _ content) (
    next_kind (leaf == lf_union) _ (union_defines content) (
    next_kind (leaf == lf_enum) _ (enumeration_defines content) (
    next_kind (leaf == lf_class2) _ (newer_class_defines _ content) (
    next_kind (leaf == lf_structure2) _ (newer_class_defines _ content) (
    next_kind (leaf == lf_interface2) _ (newer_class_defines _ content) (
    next_kind (leaf == lf_union2) _ (newer_union_defines content) (
    next_kind (leaf == lf_fieldlist) _ (other_defines (codes "FieldList")) (
    next_kind (leaf == lf_bitfield) _ (other_defines (codes "Bitfield")) (
    next_kind (leaf == lf_methodlist) _ (other_defines (codes "MethodList")) (
    next_kind (leaf == lf_vftable) _ (other_defines (codes "VirtualFunctionTable")) (
    next_kind (leaf == lf_vtshape) _ (other_defines (codes "VirtualFunctionTableShape")) (
    next_kind (leaf == lf_alias) _ (alias_defines content) (
    next_kind (leaf == lf_dimarray) _ (dimensioned_array_defines content)
    (no_kind leaf content)))))))))))))))))))))))

-- a record whose item is a class or a union, and no forward reference, is a definition by its bytes
record_defines : (first position : ℕ) (bytes : TypeBytes) (a : Aggregate)
    → item_aggregate (item_of types first position bytes) ≡ Some a → a.forward_reference ≡ false
    → is_definition bytes.kind bytes.content ≡ true
unfolding type_data
record_defines first position bytes a is defined =
    (kinds_define bytes.kind bytes.content).said a is defined

-- an entry is a class or a union that goes by a name of the set, and is no forward reference
record Definer (names : BTreeSet (Vec ℕ)) (said : Option Aggregate) : Type 0 where
  aggregate : Aggregate
  is : said ≡ Some aggregate
  defined : aggregate.forward_reference ≡ false
  has : has_name names aggregate.name ≡ true

-- an entry that gives a size to a name of the set goes by it, and is no forward reference
definer : (names : BTreeSet (Vec ℕ)) (name : List ℕ) (said : Option Aggregate) → has_name names name ≡ true
    → option_and_then (size_for name) said ≢ None → Definer names said
definer names name None has sized = absurd (sized refl)
definer names name (Some a) has sized = by_tests a.forward_reference (bytes_eq a.name name) refl refl where
  by_tests : (refers same : Bool) → a.forward_reference ≡ refers → bytes_eq a.name name ≡ same
      → Definer names (Some a)
  by_tests true same refers is = absurd (sized (rw refers refl))
  by_tests false false refers is = absurd (sized (rw (refers, is) refl))
  by_tests false true refers is = record {
    aggregate = a;
    is = refl;
    defined = refers;
    has = ap (has_name names) ((bytes_eq-Decides a.name name).0 is) ∙ has;
  }

-- if the item at a position gives a size to one of these names, the list defines one there
pub definition_found : (names : BTreeSet (Vec ℕ)) (list : TypeList) (name : List ℕ) (position : ℕ)
    (item : Item TypeIndex TypeData) → has_name names name ≡ true → item_at types list position ≡ Some item
    → definition_size name item ≢ None → defines_one names list position ≡ true
definition_found names list name position item has there sized =
    by_record (slice_get list.records position) refl there where
      by_record : (found : Option TypeBytes) → slice_get list.records position ≡ found
          → option_map (item_of types list.first position) found ≡ Some item → defines_one names list position ≡ true
      by_record None at is = cc
      by_record (Some bytes) at is =
          let same : item_of types list.first position bytes ≡ item = cc in
          let by = definer names name (item_aggregate item) has sized in
          let said : item_aggregate (item_of types list.first position bytes) ≡ Some by.aggregate =
          ap item_aggregate same ∙ by.is in
          rw at (and_from _ _ (record_defines list.first position bytes by.aggregate said by.defined)
          (rw said by.has))

-- a value that is written at an index within the list is there
got_set : {X : Type 0} (xs : List X) (i : ℕ) (x : X) → i < length xs → slice_get (set xs i x) i ≡ Some x
got_set [] i x within = absurd (omega (arith, within))
got_set (y ∷ xs) zero x within = refl
got_set (y ∷ xs) (suc i) x within = got_set xs i x (omega (arith, within))

-- a write at an index leaves the elements before it
got_other : {X : Type 0} (xs : List X) (i j : ℕ) (x : X) → j < i → slice_get (set xs i x) j ≡ slice_get xs j
got_other [] i j x below = refl
got_other (y ∷ xs) zero j x below = absurd (omega (arith, below))
got_other (y ∷ xs) (suc i) zero x below = refl
got_other (y ∷ xs) (suc i) (suc j) x below = got_other xs i j x (omega (arith, below))

-- every position below this one where the list defines one of these names is marked
abbrev pub MarkedBelow : BTreeSet (Vec ℕ) → TypeList → ℕ → List Bool → Type 0
MarkedBelow names list position marks =
    (at : ℕ) → at < position → defines_one names list at ≡ true → slice_get marks at ≡ Some true

-- the same below the next position, once the mark of this one is written
pub marked_more : (names : BTreeSet (Vec ℕ)) (list : TypeList) (position : ℕ) (marks : List Bool) (was mark : Bool)
    → position < length marks → mark ≡ (was || defines_one names list position)
    → MarkedBelow names list position marks → MarkedBelow names list (position + 1) (set marks position mark)
marked_more names list position marks was mark within is before at below defines =
    by_place (nat_eq at position) refl where
      by_place : (same : Bool) → nat_eq at position ≡ same → slice_get (set marks position mark) at ≡ Some true
      by_place true at_it =
          let same : at ≡ position = eqb-true at position at_it in
          let marked : mark ≡ true = is ∙ or_right was _ (sym (ap (defines_one names list) same) ∙ defines) in
          ap (slice_get (set marks position mark)) same ∙ got_set marks position mark within ∙ ap Some marked
      by_place false elsewhere =
          let apart : at ≡ position → ⊥ = eqb-false at position elsewhere in
          let less : at < position = omega (arith, below, apart) in
          got_other marks position at mark less ∙ before at less defines

-- if that holds below a position past the last record, each definition of these names is marked
pub all_marked : (names : BTreeSet (Vec ℕ)) (list : TypeList) (position : ℕ) (marks : List Bool)
    → length list.records ≤ position → MarkedBelow names list position marks → AreMarked names list marks
all_marked names list position marks passed below name has at item there sized =
    below at (by_record (slice_get list.records at) refl there)
    (definition_found names list name at item has there sized) where
      by_record : (found : Option TypeBytes) → slice_get list.records at ≡ found
          → option_map (item_of types list.first at) found ≡ Some item → at < position
      by_record None is e = cc
      by_record (Some bytes) is e =
          let within : at < length list.records = slice_get_within list.records at bytes is in
          omega (arith, within, passed)

-- a mark within the list that reads as set is there, and set
pub mark_there : (marks : List Bool) (position : ℕ) → position < length marks → get_or marks position false ≡ true
    → slice_get marks position ≡ Some true
mark_there marks position within is = slice_get-get_or marks position false within ∙ ap Some is

-- an element after a push was there before, or is the one that was pushed
got_pushed : {X : Type 0} (xs : List X) (x y : X) (at : ℕ) → slice_get (xs ++ x ∷ []) at ≡ Some y
    → (slice_get xs at ≡ Some y) ⊎ ((at ≡ length xs) × (x ≡ y))
got_pushed [] x y zero is = inr (refl, cc)
got_pushed [] x y (suc at) is = cc
got_pushed (z ∷ xs) x y zero is = inl is
got_pushed (z ∷ xs) x y (suc at) is = elim (got_pushed xs x y at is) [
  | inl before ↦ inl before
  | inr pushed ↦ inr (ap suc pushed.0, pushed.1)
]

-- each flag that is set has its mark set, still after a push of a flag that is set only if its mark is
pub set_more : (marks kept after : List Bool) (keeps : Bool) → after ≡ kept ++ keeps ∷ []
    → ((at : ℕ) → slice_get kept at ≡ Some true → slice_get marks at ≡ Some true)
    → (keeps ≡ true → slice_get marks (length kept) ≡ Some true)
    → (at : ℕ) → slice_get after at ≡ Some true → slice_get marks at ≡ Some true
set_more marks kept after keeps is before only at set =
    elim (got_pushed kept keeps true at (sym (ap (λ flags. slice_get flags at) is) ∙ set)) [
      | inl was ↦ before at was
      | inr pushed ↦ ap (slice_get marks) pushed.0 ∙ only pushed.1
    ]

-- a settled entry that is a forward reference goes by one of these names
settled_named : (names : BTreeSet (Vec ℕ)) (list : TypeList) (position : ℕ) (item : Item TypeIndex TypeData)
    (name : List ℕ) → is_settled_at names list position ≡ true → item_at types list position ≡ Some item
    → entry_name item ≡ Some name → has_name names name ≡ true
settled_named names list position item name settled there refers =
    let of_item : is_settled names item ≡ true =
    sym (ap (λ found. option_map_or (is_settled names) found false) there) ∙ settled in
    sym (ap (λ said. option_map_or (has_name names) said true) refers) ∙ of_item

-- forward references with a flag go by one of these names, still after a push of a flag for a settled entry
pub named_more : (names : BTreeSet (Vec ℕ)) (list : TypeList) (kept after : List Bool) (position : ℕ)
    (keeps wanted : Bool) → after ≡ kept ++ keeps ∷ [] → length kept ≡ position
    → keeps ≡ (wanted && is_settled_at names list position) → AreNamed names list kept → AreNamed names list after
named_more names list kept after position keeps wanted is so_many settled before at item name set there refers =
    elim (got_pushed kept keeps true at (sym (ap (λ flags. slice_get flags at) is) ∙ set)) [
      | inl was ↦ before at item name was there refers
      | inr pushed ↦ settled_named names list at item name (ap (is_settled_at names list) (pushed.0 ∙ so_many)
          ∙ (and_parts wanted _ (sym settled ∙ pushed.1)).1) there refers
    ]

-- an unmarked position whose record is no definition defines none of these names
pub no_definition : (marked defines : Bool) (names : BTreeSet (Vec ℕ)) (list : TypeList) (position : ℕ)
    → marked ≡ false → defines ≡ false → defines ≡ defines_at list position
    → false ≡ (marked || defines_one names list position)
no_definition marked defines names list position unmarked not_one is =
    rw (unmarked, sym is, not_one) refl

-- an unmarked position whose record is a definition defines one of these names if its item goes by one
pub one_definition : (marked defines goes : Bool) (names : BTreeSet (Vec ℕ)) (list : TypeList) (position : ℕ)
    (found : Option (Item TypeIndex TypeData)) → marked ≡ false → defines ≡ true
    → defines ≡ defines_at list position → found ≡ item_at types list position
    → goes ≡ option_map_or (goes_by names) found false → goes ≡ (marked || defines_one names list position)
one_definition marked defines goes names list position found unmarked one is there by =
    rw (unmarked, sym is, one) (by ∙ ap (λ item. option_map_or (goes_by names) item false) there)

-- a wanted size is kept if the entry at the position is settled
pub one_settled : (wanted keeps : Bool) (names : BTreeSet (Vec ℕ)) (list : TypeList) (position : ℕ)
    (found : Option (Item TypeIndex TypeData)) → wanted ≡ true → found ≡ item_at types list position
    → keeps ≡ option_map_or (is_settled names) found false → keeps ≡ (wanted && is_settled_at names list position)
one_settled wanted keeps names list position found one there by =
    rw one (by ∙ ap (λ item. option_map_or (is_settled names) item false) there)
