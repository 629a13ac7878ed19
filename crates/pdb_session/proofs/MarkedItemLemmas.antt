-- The marked items of a list, one by one.
use Rattle.std.proofs.Common.{◌≡◌, ◌∙◌, ℕ, zero, suc, ◌+◌, ◌<◌, ◌≤◌, Bool, true, false, List, [], ◌∷◌, ◌++◌, drop}
use Rattle.std.proofs.Common.{length, get_or, slice_get, Option, Some, refl, sym, ap, append_assoc, append-nil, arith}
use Rattle.std.proofs.lemmas.List.{drop_all}
use Rattle.std.proofs.lemmas.Option.{slice_get-get_or}
use Rattle.std.specs.Option.{option_map, option_to_list}
use Rattle.pdb_records.specs.declared.error.StreamError.{StreamError}
use Rattle.pdb_records.specs.declared.types.Item.{Item}
use Rattle.pdb_records.specs.declared.types.ItemInformation.{ItemInformation}
use Rattle.pdb_tpi.specs.ItemStreams.{ItemMeaning, TypeList, item_of}
use Rattle.pdb_tpi.specs.TypeRecords.{TypeBytes}
use Rattle.pdb_session.specs.MarkedItems.{marked_from, marked_items}

-- the items from a marked position on are the item there, if the list has that record, and the later ones
next_marked : {A : Type 0} (item : ℕ → TypeBytes → A) (from position : ℕ) (marks : List Bool) (records : List TypeBytes)
    → slice_get marks position ≡ Some true
    → marked_from item from (drop position marks) (drop position records)
    ≡ option_to_list (option_map (item from) (slice_get records position))
    ++ marked_from item (from + 1) (drop (suc position) marks) (drop (suc position) records)
next_marked item from position [] records is = cc
next_marked item from zero (true ∷ marks) [] is = refl
next_marked item from zero (true ∷ marks) (bytes ∷ records) is = refl
next_marked item from zero (false ∷ marks) records is = cc
next_marked item from (suc position) (mark ∷ marks) [] is = refl
next_marked item from (suc position) (mark ∷ marks) (bytes ∷ records) is =
    next_marked item from position marks records is

-- the items from a position on that isn't marked are the later ones
next_unmarked : {A : Type 0} (item : ℕ → TypeBytes → A) (from position : ℕ) (marks : List Bool)
    (records : List TypeBytes) → slice_get marks position ≡ Some false
    → marked_from item from (drop position marks) (drop position records)
    ≡ marked_from item (from + 1) (drop (suc position) marks) (drop (suc position) records)
next_unmarked item from position [] records is = cc
next_unmarked item from zero (true ∷ marks) records is = cc
next_unmarked item from zero (false ∷ marks) [] is = refl
next_unmarked item from zero (false ∷ marks) (bytes ∷ records) is = refl
next_unmarked item from (suc position) (mark ∷ marks) [] is = refl
next_unmarked item from (suc position) (mark ∷ marks) (bytes ∷ records) is =
    next_unmarked item from position marks records is

-- after the item at a marked position is pushed, all items are still those made so far and those left
pub one_marked_more : {A : Type 0} (item : ℕ → TypeBytes → A) (position : ℕ) (marks : List Bool)
    (records : List TypeBytes) (made : Option A) (all before after : List A) → position < length marks
    → get_or marks position false ≡ true
    → made ≡ option_map (item position) (slice_get records position) → after ≡ before ++ option_to_list made
    → all ≡ before ++ marked_from item position (drop position marks) (drop position records)
    → all ≡ after ++ marked_from item (position + 1) (drop (position + 1) marks) (drop (position + 1) records)
one_marked_more {A = A} item position marks records made all before after within marked is pushed was =
    let one_on : suc position ≡ position + 1 = omega arith in
    let others : List A = marked_from item (position + 1) (drop (position + 1) marks) (drop (position + 1) records) in
    let next : marked_from item position (drop position marks) (drop position records) ≡ option_to_list made ++ others
    = next_marked item position position marks records
    (slice_get-get_or marks position false within ∙ ap Some marked)
    ∙ ap (λ x. option_to_list x
    ++ marked_from item (position + 1) (drop (suc position) marks) (drop (suc position) records)) (sym is)
    ∙ ap (λ n. option_to_list made ++ marked_from item (position + 1) (drop n marks) (drop n records)) one_on in
    was ∙ ap (λ xs. before ++ xs) next ∙ sym (append_assoc before (option_to_list made) others)
    ∙ ap (λ xs. xs ++ others) (sym pushed)

-- the same after a position that isn't marked, for which nothing is pushed
pub none_marked_more : {A : Type 0} (item : ℕ → TypeBytes → A) (position : ℕ) (marks : List Bool)
    (records : List TypeBytes) (all before after : List A) → position < length marks
    → get_or marks position false ≡ false → after ≡ before
    → all ≡ before ++ marked_from item position (drop position marks) (drop position records)
    → all ≡ after ++ marked_from item (position + 1) (drop (position + 1) marks) (drop (position + 1) records)
none_marked_more item position marks records all before after within unmarked kept was =
    let one_on : suc position ≡ position + 1 = omega arith in
    was ∙ ap (λ xs. before ++ xs) (next_unmarked item position position marks records
    (slice_get-get_or marks position false within ∙ ap Some unmarked)
    ∙ ap (λ n. marked_from item (position + 1) (drop n marks) (drop n records)) one_on)
    ∙ ap (λ xs. xs ++ marked_from item (position + 1) (drop (position + 1) marks) (drop (position + 1) records))
    (sym kept)

-- without marks there are no marked items
no_marked_items : {A : Type 0} (item : ℕ → TypeBytes → A) (position : ℕ) (records : List TypeBytes)
    → marked_from item position [] records ≡ []
no_marked_items item position [] = refl
no_marked_items item position (bytes ∷ records) = refl

-- once no marks are left, the items made are the marked items of the list
pub marked_made : {I D : Type 0} (meaning : ItemMeaning I D) (list : TypeList) (position : ℕ) (marks : List Bool)
    (made : List (Item I D)) (fault : Option StreamError) → length marks ≤ position → fault ≡ list.fault
    → meaning.first ++ marked_from (item_of meaning list.first) 0 marks list.records
    ≡ made ++ marked_from (item_of meaning list.first) position (drop position marks) (drop position list.records)
    → ◌≡◌ {A = ItemInformation I D} (record { items = record { items = made; fault = fault } })
    (marked_items meaning list marks)
marked_made {I = I} {D = D} meaning list position marks made fault passed same was =
    let item : ℕ → TypeBytes → Item I D = item_of meaning list.first in
    let all : List (Item I D) = meaning.first ++ marked_from item 0 marks list.records in
    let done : all ≡ made
    = was ∙ ap (λ ms. made ++ marked_from item position ms (drop position list.records))
    (drop_all position marks passed)
    ∙ ap (λ xs. made ++ xs) (no_marked_items item position (drop position list.records)) ∙ append-nil made in
    ap (λ (xs : List (Item I D)). record { items = record { items = xs; fault = fault } }) (sym done)
    ∙ ap (λ (f : Option StreamError). record { items = record { items = all; fault = f } }) same
