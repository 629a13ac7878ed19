-- Sizes that are given to names behind an entry.
use Rattle.std.proofs.Common.{true, false, cond, nat_eq, ◌≡◌, ℕ, ◌+◌, ◌<◌, ◌∙◌, List, [], ◌∷◌, drop, length, get_or}
use Rattle.std.proofs.Common.{refl, sym, ap, arith}
use Rattle.std.specs.Prelude.{Option, Some, None, Result, Ok, Err, option_and_then}
use Rattle.std.specs.Option.{option_or, unwrap_or}
use Rattle.std.specs.Borrow.{Bor}
use Rattle.std.specs.BTreeMap.{BTreeMap, get}
use Rattle.std.specs.Ordering.{nat_cmp}
use Rattle.std.specs.Result.{result_ok}
use Rattle.std.specs.Str.{bytes_eq}
use Rattle.std.proofs.lemmas.List.{drop_more}
use Rattle.std.proofs.lemmas.Bool.Decides.{nat_tests}
use Rattle.pdb_records.specs.Readings.{Read}
use Rattle.pdb_records.specs.declared.error.Error as records
use Rattle.pdb_records.specs.declared.types.Item.{Item}
use Rattle.pdb_records.specs.declared.types.TypeIndex.{TypeIndex}
use Rattle.pdb_records.specs.declared.types.TypeData.{TypeData}
use Rattle.pdb_types.specs.ForwardReferences.{Aggregate, aggregate, item_aggregate, size_behind, size_for}
use Rattle.pdb_types.specs.ForwardReferences.{first_definition, entries_behind, referred_name}
use Rattle.pdb_types.specs.ForwardReferences.{entry_name, forward_size, size_under, Defines, Tabulates}
use Rattle.pdb_types.specs.ItemMap.{first_item}
use Rattle.pdb_types.specs.Resolution.{answered}
use Rattle.pdb_types.specs.ItemReading.{said, entry}
use Rattle.pdb_types.specs.TypeSizes.{size_elsewhere}

-- a definition gives its size to its name, and leaves other names what they had
pub size_for-or : (name : List ℕ) (a : Aggregate) (before : Option ℕ) → a.forward_reference ≡ false
    → cond (bytes_eq a.name name) (Some a.size) before ≡ option_or (size_for name a) before
size_for-or name a before defines = grind (arith, nat_tests, defines)

-- the entries from here on are this one and those behind it
pub drop-here : {A : Type 0} (xs : List A) (i left : ℕ) (x : A) → i + 1 ≡ left → i < length xs → x ≡ get_or xs i x
    → drop i xs ≡ x ∷ drop left xs
drop-here xs i left x next within is = rw (← next, drop_more xs i x within, ← is) refl

-- an empty map has what no entries define
pub defines_nothing : (sizes : BTreeMap (Bor (List ℕ)) ℕ) → sizes.entries ≡ [] → Defines [] sizes
unfolding Defines
defines_nothing sizes empty name = rw empty refl

-- an empty table has what no entries answer
pub tabulates_nothing : (sizes : BTreeMap ℕ ℕ) → sizes.entries ≡ [] → Tabulates [] sizes
unfolding Tabulates
tabulates_nothing sizes empty number = rw empty refl

-- a map that takes up an entry before those that it has the definitions of has its definition too
pub defines_more : (behind : List (Item TypeIndex TypeData)) (item : Item TypeIndex TypeData)
    (found_aggregate : Option Aggregate) (old new : BTreeMap (Bor (List ℕ)) ℕ) → found_aggregate ≡ item_aggregate item
    → Defines behind old → ((name : List ℕ)
    → size_under new name ≡ option_or (option_and_then (size_for name) found_aggregate) (size_under old name))
    → Defines (item ∷ behind) new
unfolding Defines
defines_more behind item found_aggregate old new is defined step name = rw (step name, is, defined name) refl

-- what a map has under the own name of an entry is its size among the entries that it has the definitions of
pub forward_size_among-by_name : (behind : List (Item TypeIndex TypeData)) (sizes : BTreeMap (Bor (List ℕ)) ℕ)
    → Defines behind sizes → (name : Option (List ℕ))
    → option_and_then (size_under sizes) name ≡ option_and_then (λ n. first_definition n behind) name
unfolding Defines
forward_size_among-by_name behind sizes defined None = refl
forward_size_among-by_name behind sizes defined (Some name) = defined name

-- the size that an entry's own name is given by these entries, where it is a forward reference
abbrev forward_size_among : List (Item TypeIndex TypeData) → Item TypeIndex TypeData → Option ℕ
forward_size_among items item = option_and_then (λ name. first_definition name items) (entry_name item)

-- the first of some entries has its size behind it where the index is its own, and else the index has it behind another
forward_size-first : (number : ℕ) (item : Item TypeIndex TypeData) (behind : List (Item TypeIndex TypeData))
    → forward_size number (item ∷ behind) ≡ cond (nat_eq item.index.0 number) (forward_size_among behind item)
    (forward_size number behind)
forward_size-first number item behind =
    elim (nat_eq item.index.0 number) as (λ b.
    option_and_then (λ name. first_definition name (cond b behind (entries_behind number behind)))
    (option_and_then entry_name (cond b (Some item) (first_item (λ index. index.0) number behind)))
    ≡ cond b (forward_size_among behind item) (forward_size number behind)) [ true ↦ refl | false ↦ refl ]

-- a table that takes up an entry before those that it has the answers of has its answer too
pub tabulates_more : (behind : List (Item TypeIndex TypeData)) (item : Item TypeIndex TypeData) (number : ℕ)
    (found_aggregate : Option Aggregate) (size : Option ℕ) (by_name : BTreeMap (Bor (List ℕ)) ℕ)
    (old new : BTreeMap ℕ ℕ)
    → number ≡ item.index.0 → found_aggregate ≡ item_aggregate item
    → size ≡ option_and_then (size_under by_name) (option_and_then referred_name found_aggregate)
    → Defines behind by_name
    → Tabulates behind old → ((n : ℕ) → get nat_cmp new n ≡ cond (nat_eq number n) size (get nat_cmp old n))
    → Tabulates (item ∷ behind) new
unfolding Tabulates
tabulates_more behind item number found_aggregate size by_name old new same is answers defined tabulated step n =
    let own : size ≡ forward_size_among behind item =
    answers ∙ (forward_size_among-by_name behind by_name defined (option_and_then referred_name found_aggregate) ∙ ap
    (λ t. option_and_then (λ name. first_definition name behind) (option_and_then referred_name t)) is) in
    rw (step n, same, own, tabulated n) (sym (forward_size-first n item behind))

-- the size behind an entry of the name that it goes by, where it is a forward reference
forward_size-aggregate : (number : ℕ) (a : Aggregate) (items : List (Item TypeIndex TypeData))
    (found : Item TypeIndex TypeData)
    → first_item (λ index. index.0) number items ≡ Some found → item_aggregate found ≡ Some a
    → a.forward_reference ≡ true
    → forward_size number items ≡ size_behind number a.name items
forward_size-aggregate number a items found is is_aggregate refers =
    rw (is, is_aggregate, refers) refl

-- the size of a forward reference that was read is that behind it by its own name
pub forward_size-read : (types : Read (Item TypeIndex TypeData)) (number : ℕ) (type : TypeData) (a : Aggregate)
    → entry (λ index. index.0) types number ≡ Ok type → aggregate type ≡ Some a → a.forward_reference ≡ true
    → forward_size number types.items ≡ size_behind number a.name types.items
forward_size-read types number type a read is_aggregate refers =
    by_found (first_item (λ index. index.0) number types.items) refl read where
      by_content : (item : Item TypeIndex TypeData) (content : Result TypeData records.Error) → item.content ≡ content
          → answered content ≡ Ok type → item_aggregate item ≡ Some a
      by_content item (Ok said) is e = let same : said ≡ type = cc in
          ap (λ c. option_and_then aggregate (result_ok c)) is ∙ (ap aggregate same ∙ is_aggregate)
      by_content item (Err error) is e = cc

      by_found : (o : Option (Item TypeIndex TypeData)) → first_item (λ index. index.0) number types.items ≡ o
          → said types.fault number o ≡ Ok type
          → forward_size number types.items ≡ size_behind number a.name types.items
      by_found None is e = cc
      by_found (Some item) is e = forward_size-aggregate number a types.items item is
          (by_content item item.content refl e) refers

-- what a table has under a number is the size behind its index
pub forward_size-tabulated : (inside items : List (Item TypeIndex TypeData)) (n number : ℕ) (sizes : BTreeMap ℕ ℕ)
    → inside ≡ items → n ≡ number → Tabulates inside sizes → get nat_cmp sizes n ≡ forward_size number items
unfolding Tabulates
forward_size-tabulated inside items n number sizes same is tabulated = rw (← same, ← is) (tabulated n)

-- a forward reference has the size that was found behind it, else its own
pub size_elsewhere-forward : (number own : ℕ) (items : List (Item TypeIndex TypeData))
    (found_aggregate : Option Aggregate)
    (a : Aggregate) (size : Option ℕ) → found_aggregate ≡ Some a → a.forward_reference ≡ true
    → size ≡ size_behind number a.name items
    → unwrap_or size own ≡ unwrap_or (option_and_then (size_elsewhere number items) found_aggregate) own
size_elsewhere-forward number own items found_aggregate a size is refers found = rw (is, refers, found) refl
