-- Lists of items, one by one.
use Rattle.std.proofs.Common.{◌≡◌, ℕ, zero, suc, ◌+◌, ◌-◌, ◌<◌, ◌==◌, false, List, [], ◌∷◌, ◌++◌, length}
use Rattle.std.proofs.Common.{Option, Some, None, Result, Ok, Err, refl, sym, append_assoc, append-nil, subst}
use Rattle.std.proofs.Common.{arith}
use Rattle.std.proofs.lemmas.Grind.{common_steps}
use Rattle.pdb_records.specs.Readings.{Read}
use Rattle.pdb_records.specs.declared.error.StreamError.{StreamError}
use Rattle.pdb_msf.specs.Readings.{behind, nothing_read}
use Rattle.pdb_msf.specs.ItemLists.{all_items, items_up_to}

-- where there is an item, at most so many are that one and those behind it
pub first_up_to : {A : Type 0} (first : List ℕ → Result (A × List ℕ) StreamError) (count : ℕ) (bytes : List ℕ)
    (read : A × List ℕ) → 0 < length bytes → first bytes ≡ Ok read
    → items_up_to first (suc count) bytes ≡ behind (read.0 ∷ []) (items_up_to first count read.1)
first_up_to first count bytes read some is =
    let there : (length bytes == 0) ≡ false = grind (arith, common_steps) in
    simp (there, is)

-- an item that has a fault is none
pub fault_up_to : {A : Type 0} (first : List ℕ → Result (A × List ℕ) StreamError) (count : ℕ) (bytes : List ℕ)
    (fault : StreamError) → 0 < length bytes → first bytes ≡ Err fault
    → items_up_to first (suc count) bytes ≡ nothing_read (Some fault)
fault_up_to first count bytes fault some is =
    let there : (length bytes == 0) ≡ false = grind (arith, common_steps) in
    simp (there, is)

-- where there is a next item, what holds of those behind it holds of at most one more
next_holds : {A : Type 0} (first : List ℕ → Result (A × List ℕ) StreamError) (P : List ℕ → Read A → Type 0)
    → ((bytes : List ℕ) (fault : Option StreamError) → P bytes (nothing_read fault))
    → ((bytes : List ℕ) (read : A × List ℕ) (others : Read A) → first bytes ≡ Ok read → P read.1 others
    → P bytes (behind (read.0 ∷ []) others))
    → (count : ℕ) (bytes : List ℕ) (read : Result (A × List ℕ) StreamError) → 0 < length bytes → first bytes ≡ read
    → ((rest : List ℕ) → P rest (items_up_to first count rest)) → P bytes (items_up_to first (suc count) bytes)
next_holds first P none more count bytes (Err fault) some is others =
    subst (P bytes) (sym (fault_up_to first count bytes fault some is)) (none bytes (Some fault))
next_holds first P none more count bytes (Ok read) some is others =
    subst (P bytes) (sym (first_up_to first count bytes read some is))
    (more bytes read (items_up_to first count read.1) is (others read.1))

-- what holds of no items, and with each item of that one and those behind it, holds of every list
pub every_list : {A : Type 0} (first : List ℕ → Result (A × List ℕ) StreamError) (P : List ℕ → Read A → Type 0)
    → ((bytes : List ℕ) (fault : Option StreamError) → P bytes (nothing_read fault))
    → ((bytes : List ℕ) (read : A × List ℕ) (others : Read A) → first bytes ≡ Ok read → P read.1 others
    → P bytes (behind (read.0 ∷ []) others))
    → (count : ℕ) (bytes : List ℕ) → P bytes (items_up_to first count bytes)
every_list first P none more zero bytes = none bytes None
every_list first P none more (suc count) [] = none [] None
every_list first P none more (suc count) (x ∷ xs) =
    next_holds first P none more count (x ∷ xs) (first (x ∷ xs)) (omega arith) refl
    (every_list first P none more count)

-- how many are left, where there is one
pub one_left : (count counter : ℕ) → counter < count → count - counter ≡ suc (count - (counter + 1))
one_left count counter some = omega arith

-- before any is read, all are left
pub unread : {A : Type 0} (first : List ℕ → Result (A × List ℕ) StreamError) (bytes rest : List ℕ)
    (before after : List A) → after ≡ before → rest ≡ bytes
    → behind before (all_items first bytes) ≡ behind after (items_up_to first (length bytes - 0) rest)
unfolding all_items
unread first bytes rest before after same is =
    let all : length bytes - 0 ≡ length bytes = omega arith in
    rw (same, is, all) refl

-- with the next item read, the items are still those that were read and those that are left
pub one_item_more : {A : Type 0} (first : List ℕ → Result (A × List ℕ) StreamError) (bytes rest next : List ℕ)
    (counter : ℕ) (item : A) (all : Read A) (before after : List A) → counter < length bytes → 0 < length rest
    → first rest ≡ Ok (item, next) → after ≡ before ++ item ∷ []
    → all ≡ behind before (items_up_to first (length bytes - counter) rest)
    → all ≡ behind after (items_up_to first (length bytes - (counter + 1)) next)
one_item_more first bytes rest next counter item all before after some there is pushed was =
    let read : items_up_to first (length bytes - counter) rest
    ≡ behind (item ∷ []) (items_up_to first (length bytes - (counter + 1)) next)
    = rw (one_left (length bytes) counter some) (first_up_to first _ rest (item, next) there is) in
    rw (pushed, append_assoc) (rw read at was)

-- where an item has a fault, what was read is all, and the fault stands behind it
pub faulty_item : {A : Type 0} (first : List ℕ → Result (A × List ℕ) StreamError) (bytes rest : List ℕ) (counter : ℕ)
    (all : Read A) (before : List A) (fault : StreamError) → counter < length bytes → 0 < length rest
    → first rest ≡ Err fault → all ≡ behind before (items_up_to first (length bytes - counter) rest)
    → all ≡ record { items = before; fault = Some fault }
faulty_item first bytes rest counter all before fault some there is was =
    let read : items_up_to first (length bytes - counter) rest ≡ nothing_read (Some fault)
    = rw (one_left (length bytes) counter some) (fault_up_to first _ rest fault there is) in
    rw (read, append-nil) at was
