-- A list answers by its marked items as by all items, for each index whose records are marked.
use Rattle.std.proofs.Common.{◌≡◌, ◌≢◌, ◌∙◌, ℕ, zero, suc, ◌+◌, ◌-◌, ◌^◌, ◌<◌, Bool, true, false, cond, List, [], ◌∷◌}
use Rattle.std.proofs.Common.{◌++◌, length, slice_get, Option, Some, None, Ok, refl, ap, sym, subst, arith}
use Rattle.std.proofs.lemmas.Bool.{eqb-true, ltb-true}
use Rattle.std.proofs.lemmas.Option.{slice_get_within, slice_get-get_or, unwrap_or-slice_get}
use Rattle.std.specs.List.{flat_map, range_with_len}
use Rattle.std.specs.Option.{option_map, option_or}
use Rattle.std.specs.Prelude.{◌*◌, ◌==◌, ◌&&◌, ◌||◌, ⊤, nat_lt, unwrap_or, find, map, option_and_then}
use Rattle.pdb_records.specs.declared.types.Item.{Item}
use Rattle.pdb_records.specs.declared.types.PrimitiveKind.{PrimitiveKind}
use Rattle.pdb_records.specs.declared.types.PrimitiveType.{PrimitiveType}
use Rattle.pdb_records.specs.declared.types.TypeData.{TypeData}
use Rattle.pdb_records.specs.declared.types.TypeData.TheVariants.{Primitive}
use Rattle.pdb_records.specs.declared.types.TypeIndex.{TypeIndex}
use Rattle.pdb_types.specs.ForwardReferences.{definition_size, entries_behind, entry_name, first_definition}
use Rattle.pdb_types.specs.ForwardReferences.{forward_size}
use Rattle.pdb_types.specs.ItemMap.{first_item}
use Rattle.pdb_types.specs.ItemReading.{said}
use Rattle.pdb_tpi.specs.ItemStreams.{ItemMeaning, TypeList, index_at, item_of, items_from, list_items}
use Rattle.pdb_tpi.specs.Primitives.{null_pointer_type, primitive, primitive_kinds, primitives, primitives_in}
use Rattle.pdb_tpi.specs.Primitives.{t_pvoid}
use Rattle.pdb_tpi.specs.TypeRecords.{TypeBytes}
use Rattle.pdb_tpi.specs.TypeLeaves.{types}
use Rattle.pdb_known.specs.Known.{AreAlike, AreDefinedAlike, is_covered}
use Rattle.pdb_session.specs.MarkedItems.{AreSettled, marked_from, marked_items}

-- each record whose item is wanted has its mark set; the first record has this position
abbrev AreMarked : {A : Type 0} → (ℕ → TypeBytes → A) → (A → Type 0) → ℕ → List TypeBytes → List Bool → Type 0
AreMarked item IsWanted position records marks = (offset at : ℕ) (bytes : TypeBytes) → at ≡ position + offset
    → slice_get records offset ≡ Some bytes → IsWanted (item at bytes) → slice_get marks offset ≡ Some true

-- the same of the records after the first
marked_behind : {A : Type 0} (item : ℕ → TypeBytes → A) (IsWanted : A → Type 0) (position : ℕ) (first : TypeBytes)
    (records : List TypeBytes) (mark : Bool) (marks : List Bool)
    → AreMarked item IsWanted position (first ∷ records) (mark ∷ marks)
    → AreMarked item IsWanted (position + 1) records marks
marked_behind item IsWanted position first records mark marks marked offset at bytes is =
    marked (suc offset) at bytes (omega (arith, is))

-- if each item that passes a test is marked, the first of these is the same among the marked items as among all
find_marked : {A : Type 0} (item : ℕ → TypeBytes → A) (test : A → Bool) (position : ℕ) (records : List TypeBytes)
    (marks : List Bool) → length marks ≡ length records
    → AreMarked item (λ a. test a ≡ true) position records marks
    → find test (marked_from item position marks records) ≡ find test (items_from item position records)
find_marked item test position [] marks same marked = refl
find_marked item test position (bytes ∷ records) [] same marked = absurd (omega (arith, same))
find_marked item test position (bytes ∷ records) (true ∷ marks) same marked =
    ap (cond (test (item position bytes)) (Some (item position bytes)))
    (find_marked item test (position + 1) records marks (omega (arith, same))
    (marked_behind item (λ a. test a ≡ true) position bytes records true marks marked))
find_marked item test position (bytes ∷ records) (false ∷ marks) same marked =
    find_marked item test (position + 1) records marks (omega (arith, same))
    (marked_behind item (λ a. test a ≡ true) position bytes records false marks marked)
    ∙ by_test (test (item position bytes)) refl
  where
    by_test : (t : Bool) → test (item position bytes) ≡ t → find test (items_from item (position + 1) records)
        ≡ cond t (Some (item position bytes)) (find test (items_from item (position + 1) records))
    by_test true is =
        let unmarked : Some false ≡ Some true = marked zero position bytes (omega arith) refl is in cc
    by_test false is = refl

-- if two lists have the same first item with a number, they still do after the same items are put before both
first_behind : {I D : Type 0} (number_of : I → ℕ) (number : ℕ) (front part whole : List (Item I D))
    → first_item number_of number part ≡ first_item number_of number whole
    → first_item number_of number (front ++ part) ≡ first_item number_of number (front ++ whole)
first_behind number_of number [] part whole same = same
first_behind number_of number (item ∷ front) part whole same =
    ap (cond (number_of item.index == number) (Some item)) (first_behind number_of number front part whole same)

-- if the index of a record is covered, the record's flag is set
covered_flag : (first position number : ℕ) (flags : List Bool) → position < length flags
    → index_at first position ≡ number → is_covered (record { first = first; read = flags }) number ≡ true
    → slice_get flags position ≡ Some true
covered_flag first position number flags within is =
    by_tests (nat_lt number (2 ^ 31)) refl (nat_lt number first) refl where
      by_tests : (low : Bool) → nat_lt number (2 ^ 31) ≡ low → (before : Bool) → nat_lt number first ≡ before
          → (low && (before || unwrap_or (slice_get flags (number - first)) true)) ≡ true
          → slice_get flags position ≡ Some true
      by_tests false is_low before is_before covered = cc
      by_tests true is_low true is_before covered =
          absurd (omega (arith, is, ltb-true number (2 ^ 31) is_low, ltb-true number first is_before))
      by_tests true is_low false is_before covered =
          let place : position ≡ number - first = omega (arith, is, ltb-true number (2 ^ 31) is_low) in
          slice_get-get_or flags position true within
          ∙ ap Some (sym (unwrap_or-slice_get flags position true)
          ∙ ap (λ n. unwrap_or (slice_get flags n) true) place ∙ covered)

-- the marked items of a list have the same entry as all its items, for each index that the marks cover
pub alike_where_marked : {I D : Type 0} (number_of : I → ℕ) (meaning : ItemMeaning I D)
    → ((n : ℕ) → number_of (meaning.index n) ≡ n) → (list : TypeList) (marks : List Bool)
    → length marks ≡ length list.records
    → AreAlike number_of (record { first = list.first; read = marks }) (Ok (marked_items meaning list marks))
    (Ok (list_items meaning list))
alike_where_marked {I = I} {D = D} number_of meaning numbered list marks same index covered =
    ap (said list.fault index)
    (first_behind number_of index meaning.first (marked_from (item_of meaning list.first) 0 marks list.records)
    (items_from (item_of meaning list.first) 0 list.records)
    (find_marked (item_of meaning list.first) (λ item. number_of item.index == index) 0 list.records marks same
    (λ offset at bytes is there found.
    let number : number_of (meaning.index (index_at list.first at)) ≡ index
    = eqb-true (number_of (meaning.index (index_at list.first at))) index found in
    covered_flag list.first offset index marks
    (omega (arith, same, slice_get_within list.records offset bytes there))
    (omega (arith, is, number, numbered (index_at list.first at))) covered)))

-- if each item that defines a name is marked, its first definition is the same among the marked items as among all
definition_marked : (item : ℕ → TypeBytes → Item TypeIndex TypeData) (name : List ℕ) (position : ℕ)
    (records : List TypeBytes) (marks : List Bool) → length marks ≡ length records
    → AreMarked item (λ a. definition_size name a ≢ None) position records marks
    → first_definition name (marked_from item position marks records)
    ≡ first_definition name (items_from item position records)
definition_marked item name position [] marks same marked = refl
definition_marked item name position (bytes ∷ records) [] same marked = absurd (omega (arith, same))
definition_marked item name position (bytes ∷ records) (true ∷ marks) same marked =
    ap (option_or (definition_size name (item position bytes)))
    (definition_marked item name (position + 1) records marks (omega (arith, same))
    (marked_behind item (λ a. definition_size name a ≢ None) position bytes records true marks marked))
definition_marked item name position (bytes ∷ records) (false ∷ marks) same marked =
    definition_marked item name (position + 1) records marks (omega (arith, same))
    (marked_behind item (λ a. definition_size name a ≢ None) position bytes records false marks marked)
    ∙ by_size (definition_size name (item position bytes)) refl
  where
    by_size : (size : Option ℕ) → definition_size name (item position bytes) ≡ size
        → first_definition name (items_from item (position + 1) records)
        ≡ option_or size (first_definition name (items_from item (position + 1) records))
    by_size None is = refl
    by_size (Some size) is =
        let unmarked : Some false ≡ Some true = marked zero position bytes (omega arith) refl (λ none. cc) in cc

-- the size that these items give to the name of another item, if that one is a forward reference
abbrev size_among : List (Item TypeIndex TypeData) → Item TypeIndex TypeData → Option ℕ
size_among items item = option_and_then (λ name. first_definition name items) (entry_name item)

-- the size of a forward reference, by whether the first item of the list has its index
forward_first : (number : ℕ) (item : Item TypeIndex TypeData) (behind : List (Item TypeIndex TypeData))
    → forward_size number (item ∷ behind)
    ≡ cond (item.index.0 == number) (size_among behind item) (forward_size number behind)
forward_first number item behind =
    elim (item.index.0 == number) as (λ b.
    option_and_then (λ name. first_definition name (cond b behind (entries_behind number behind)))
    (option_and_then entry_name (cond b (Some item) (first_item (λ index. index.0) number behind)))
    ≡ cond b (size_among behind item) (forward_size number behind)) [ true ↦ refl | false ↦ refl ]

-- none of these items is a forward reference
abbrev NoneRefers : List (Item TypeIndex TypeData) → Type 0
NoneRefers [] = ⊤
NoneRefers (item ∷ items) = (entry_name item ≡ None) × NoneRefers items

-- if two lists give an index the same size, they still do after items that aren't forward references are put first
forward_behind : (number : ℕ) (front part whole : List (Item TypeIndex TypeData)) → NoneRefers front
    → forward_size number part ≡ forward_size number whole
    → forward_size number (front ++ part) ≡ forward_size number (front ++ whole)
forward_behind number [] part whole none same = same
forward_behind number (item ∷ front) part whole none same =
    forward_first number item (front ++ part)
    ∙ by_index (forward_behind number front part whole none.1 same) (item.index.0 == number) (entry_name item) none.0
    ∙ sym (forward_first number item (front ++ whole))
  where
    by_index : forward_size number (front ++ part) ≡ forward_size number (front ++ whole)
        → (t : Bool) (name : Option (List ℕ)) → name ≡ None
        → cond t (option_and_then (λ n. first_definition n (front ++ part)) name) (forward_size number (front ++ part))
        ≡ cond t (option_and_then (λ n. first_definition n (front ++ whole)) name)
        (forward_size number (front ++ whole))
    by_index others true None is = refl
    by_index others true (Some name) is = cc
    by_index others false name is = others

-- neither type that an index of a primitive can have is a forward reference
none_either : (index : TypeIndex) (is_null : Bool) (p : PrimitiveType)
    → entry_name (record { index = index; content = Ok (cond is_null null_pointer_type (Primitive p)) }) ≡ None
none_either index true p = refl
none_either index false p = refl

-- no primitive of one mode is a forward reference
none_mapped : (mode : ℕ) (kinds : List (ℕ × PrimitiveKind)) → NoneRefers (map (primitive mode) kinds)
none_mapped mode [] = tt
none_mapped mode (listed ∷ kinds) =
    let index : ℕ = mode * 256 + listed.0 in (
      none_either (record { 0 = index }) (index == t_pvoid) (record { kind = listed.1; indirection = nat_lt 0 mode }),
      none_mapped mode kinds,
    )

-- two lists without forward references have none together
none_behind : (front items : List (Item TypeIndex TypeData)) → NoneRefers front → NoneRefers items
    → NoneRefers (front ++ items)
none_behind [] items none others = others
none_behind (item ∷ front) items none others = (none.0, none_behind front items none.1 others)

-- no primitive of these modes is a forward reference
none_in_modes : (kinds : List (ℕ × PrimitiveKind)) (modes : List ℕ) → NoneRefers (flat_map (primitives_in kinds) modes)
none_in_modes kinds [] = tt
none_in_modes kinds (mode ∷ modes) =
    none_behind (map (primitive mode) kinds) (flat_map (primitives_in kinds) modes) (none_mapped mode kinds)
    (none_in_modes kinds modes)

-- no primitive is a forward reference
no_primitive : NoneRefers primitives
unfolding primitives
no_primitive = none_in_modes primitive_kinds (range_with_len 0 8)

-- if a record with this number is a forward reference, each record that defines its name is marked
abbrev AreDefinersMarked : (ℕ → TypeBytes → Item TypeIndex TypeData) → ℕ → ℕ → List TypeBytes → List Bool → Type 0
AreDefinersMarked item number position records marks =
    (offset at : ℕ) (bytes : TypeBytes) (name : List ℕ) → at ≡ position + offset
    → slice_get records offset ≡ Some bytes → (item at bytes).index.0 ≡ number → entry_name (item at bytes) ≡ Some name
    → AreMarked item (λ a. definition_size name a ≢ None) position records marks

-- the same of the records after the first
definers_behind : (item : ℕ → TypeBytes → Item TypeIndex TypeData) (number position : ℕ) (first : TypeBytes)
    (records : List TypeBytes) (mark : Bool) (marks : List Bool)
    → AreDefinersMarked item number position (first ∷ records) (mark ∷ marks)
    → AreDefinersMarked item number (position + 1) records marks
definers_behind item number position first records mark marks defined offset at bytes name is there =
    λ indexed named. marked_behind item (λ a. definition_size name a ≢ None) position first records mark marks
    (defined (suc offset) at bytes name (omega (arith, is)) there indexed named)

-- if an index's records and the definitions of their names are marked, its size is the same among the marked items
forward_marked : (item : ℕ → TypeBytes → Item TypeIndex TypeData) (number position : ℕ) (records : List TypeBytes)
    (marks : List Bool) → length marks ≡ length records
    → AreMarked item (λ a. a.index.0 ≡ number) position records marks
    → AreDefinersMarked item number position records marks
    → forward_size number (marked_from item position marks records)
    ≡ forward_size number (items_from item position records)
forward_marked item number position [] marks same marked defined = refl
forward_marked item number position (bytes ∷ records) [] same marked defined = absurd (omega (arith, same))
forward_marked item number position (bytes ∷ records) (true ∷ marks) same marked defined =
    forward_first number (item position bytes) (marked_from item (position + 1) marks records)
    ∙ by_index (forward_marked item number (position + 1) records marks (omega (arith, same))
    (marked_behind item (λ a. a.index.0 ≡ number) position bytes records true marks marked)
    (definers_behind item number position bytes records true marks defined))
    ((item position bytes).index.0 == number) refl (entry_name (item position bytes)) refl
    ∙ sym (forward_first number (item position bytes) (items_from item (position + 1) records))
  where
    by_index : forward_size number (marked_from item (position + 1) marks records)
        ≡ forward_size number (items_from item (position + 1) records)
        → (t : Bool) → ((item position bytes).index.0 == number) ≡ t
        → (name : Option (List ℕ)) → entry_name (item position bytes) ≡ name
        → cond t (option_and_then (λ n. first_definition n (marked_from item (position + 1) marks records)) name)
        (forward_size number (marked_from item (position + 1) marks records))
        ≡ cond t (option_and_then (λ n. first_definition n (items_from item (position + 1) records)) name)
        (forward_size number (items_from item (position + 1) records))
    by_index others true is None named = refl
    by_index others true is (Some name) named =
        definition_marked item name (position + 1) records marks (omega (arith, same))
        (marked_behind item (λ a. definition_size name a ≢ None) position bytes records true marks
        (defined zero position bytes name (omega arith) refl (eqb-true (item position bytes).index.0 number is) named))
    by_index others false is name named = others
forward_marked item number position (bytes ∷ records) (false ∷ marks) same marked defined =
    forward_marked item number (position + 1) records marks (omega (arith, same))
    (marked_behind item (λ a. a.index.0 ≡ number) position bytes records false marks marked)
    (definers_behind item number position bytes records false marks defined)
    ∙ by_index ((item position bytes).index.0 == number) refl
    ∙ sym (forward_first number (item position bytes) (items_from item (position + 1) records))
  where
    by_index : (t : Bool) → ((item position bytes).index.0 == number) ≡ t
        → forward_size number (items_from item (position + 1) records)
        ≡ cond t (size_among (items_from item (position + 1) records) (item position bytes))
        (forward_size number (items_from item (position + 1) records))
    by_index true is =
        let unmarked : Some false ≡ Some true
        = marked zero position bytes (omega arith) refl (eqb-true (item position bytes).index.0 number is) in cc
    by_index false is = refl

-- if the marks are settled, the marked items give a forward reference the same size as all items of the list do
pub defined_where_marked : (list : TypeList) (marks sizes : List Bool) → length marks ≡ length list.records
    → length sizes ≡ length list.records → AreSettled list marks sizes
    → AreDefinedAlike (record { first = list.first; read = sizes }) (Ok (marked_items types list marks))
    (Ok (list_items types list))
defined_where_marked list marks sizes same sized settled index covered =
    forward_behind index primitives (marked_from (item_of types list.first) 0 marks list.records)
    (items_from (item_of types list.first) 0 list.records) no_primitive
    (forward_marked (item_of types list.first) index 0 list.records marks same
    (λ offset at bytes is there indexed. settled.marked offset
    (size_flag offset at bytes is there indexed))
    (λ offset at bytes name is there indexed named other other_at definition other_is found defines.
    settled.defined offset (item_of types list.first offset bytes) name (size_flag offset at bytes is there indexed)
    (ap (option_map (item_of types list.first offset)) there)
    (subst (λ (n : ℕ). entry_name (item_of types list.first n bytes) ≡ Some name) (same_place is) named)
    other (item_of types list.first other definition)
    (ap (option_map (item_of types list.first other)) found)
    (subst (λ (n : ℕ). definition_size name (item_of types list.first n definition) ≢ None) (same_place other_is)
    defines)))
  where
    same_place : {at offset : ℕ} → at ≡ 0 + offset → at ≡ offset
    same_place is = omega (arith, is)

    size_flag : (offset at : ℕ) (bytes : TypeBytes) → at ≡ 0 + offset → slice_get list.records offset ≡ Some bytes
        → index_at list.first at ≡ index → slice_get sizes offset ≡ Some true
    size_flag offset at bytes is there indexed =
        covered_flag list.first offset index sizes
        (omega (arith, sized, slice_get_within list.records offset bytes there))
        (omega (arith, is, indexed)) covered
