-- Items of a list, one by one.
use Rattle.std.proofs.Common.{◌≡◌, ◌∙◌, ℕ, zero, suc, ◌+◌, ◌≤◌, List, [], ◌∷◌, ◌++◌, drop, length, slice_get}
use Rattle.std.proofs.Common.{Option, Result, refl, sym, ap, append_assoc, append-nil, arith}
use Rattle.std.specs.Option.{option_map, option_to_list}
use Rattle.std.proofs.lemmas.List.{drop_all}
use Rattle.pdb_records.specs.declared.error.Error.{Error}
use Rattle.pdb_records.specs.declared.error.StreamError.{StreamError}
use Rattle.pdb_records.specs.declared.types.Item.{Item}
use Rattle.pdb_records.specs.declared.types.ItemInformation.{ItemInformation}
use Rattle.pdb_tpi.specs.ItemStreams.{ItemMeaning, TypeList, index_at, item_of, items_from, list_items}
use Rattle.pdb_tpi.specs.TypeRecords.{TypeBytes}

-- the items from a position on are the one there, if there is one, and those after it
next_item : {A : Type 0} (item : ℕ → TypeBytes → A) (from position : ℕ) (records : List TypeBytes)
    → items_from item from (drop position records)
    ≡ option_to_list (option_map (item from) (slice_get records position))
    ++ items_from item (from + 1) (drop (suc position) records)
next_item item from zero [] = refl
next_item item from (suc position) [] = refl
next_item item from zero (bytes ∷ rest) = refl
next_item item from (suc position) (bytes ∷ rest) = next_item item from position rest

-- with the next item made, the items are still those that were made and those that are left
pub one_item_more : {A : Type 0} (item : ℕ → TypeBytes → A) (position : ℕ) (records : List TypeBytes)
    (made : Option A) (all before after : List A) → made ≡ option_map (item position) (slice_get records position)
    → after ≡ before ++ option_to_list made → all ≡ before ++ items_from item position (drop position records)
    → all ≡ after ++ items_from item (position + 1) (drop (position + 1) records)
one_item_more {A = A} item position records made all before after is pushed was =
    let one_on : suc position ≡ position + 1 = omega arith in
    let others : List A = items_from item (position + 1) (drop (position + 1) records) in
    let next : items_from item position (drop position records) ≡ option_to_list made ++ others
    = next_item item position position records
    ∙ ap (λ x. option_to_list x ++ items_from item (position + 1) (drop (suc position) records)) (sym is)
    ∙ ap (λ n. option_to_list made ++ items_from item (position + 1) (drop n records)) one_on in
    was ∙ ap (λ xs. before ++ xs) next ∙ sym (append_assoc before (option_to_list made) others)
    ∙ ap (λ xs. xs ++ others) (sym pushed)

-- after the last record there are no more items
no_items_left : {A : Type 0} (item : ℕ → TypeBytes → A) (position : ℕ) (records : List TypeBytes)
    (all before : List A) → length records ≤ position
    → all ≡ before ++ items_from item position (drop position records) → before ≡ all
no_items_left item position records all before passed was =
    sym (was ∙ ap (λ xs. before ++ items_from item position xs) (drop_all position records passed)
    ∙ append-nil before)

-- the item that was made of a record
pub item_made : {I D : Type 0} (meaning : ItemMeaning I D) (first position number : ℕ) (bytes : TypeBytes) (index : I)
    (content : Result D Error) → number ≡ index_at first position → index ≡ meaning.index number
    → content ≡ meaning.content bytes.kind bytes.content
    → ◌≡◌ {A = Item I D} (record { index = index; content = content }) (item_of meaning first position bytes)
item_made {I = I} {D = D} meaning first position number bytes index content at named is =
    ap (λ (i : I). record { index = i; content = content }) (named ∙ ap meaning.index at)
    ∙ ap (λ (c : Result D Error). record { index = meaning.index (index_at first position); content = c }) is

-- the items that were made of all records are the list's
pub items_made : {I D : Type 0} (meaning : ItemMeaning I D) (list : TypeList) (position : ℕ) (made : List (Item I D))
    (fault : Option StreamError) → length list.records ≤ position → fault ≡ list.fault
    → meaning.first ++ items_from (item_of meaning list.first) 0 list.records
    ≡ made ++ items_from (item_of meaning list.first) position (drop position list.records)
    → ◌≡◌ {A = ItemInformation I D} (record { items = record { items = made; fault = fault } })
    (list_items meaning list)
items_made {I = I} {D = D} meaning list position made fault passed same was =
    let all : List (Item I D) = meaning.first ++ items_from (item_of meaning list.first) 0 list.records in
    ap (λ (xs : List (Item I D)). record { items = record { items = xs; fault = fault } })
    (no_items_left (item_of meaning list.first) position list.records all made passed was)
    ∙ ap (λ (f : Option StreamError). record { items = record { items = all; fault = f } }) same
