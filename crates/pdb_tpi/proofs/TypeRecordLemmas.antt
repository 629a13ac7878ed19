-- Records of types and ids, by where they start.
use Rattle.std.proofs.Common.{◌≡◌, ◌∙◌, ℕ, zero, suc, ◌+◌, ◌-◌, ◌≤◌, ◌<◌, ◌^◌, List, [], ◌∷◌, drop, length}
use Rattle.std.proofs.Common.{Option, Some, None, Result, Ok, Err, refl, sym, ap, subst, length-drop, arith}
use Rattle.std.proofs.lemmas.Grind.{common_steps}
use Rattle.std.proofs.lemmas.List.{drop-drop}
use Rattle.std.specs.Prelude.{min}
use Rattle.pdb_records.specs.Readings.{Read}
use Rattle.pdb_records.specs.declared.error.StreamError.{StreamError}
use Rattle.pdb_msf.specs.Faults.{◌>>=◌}
use Rattle.pdb_msf.specs.ItemLists.{all_items, items_up_to}
use Rattle.pdb_msf.specs.Readings.{behind, nothing_read}
use Rattle.pdb_msf.proofs.ItemListLemmas.{fault_up_to, first_up_to}
use Rattle.pdb_tpi.specs.TypeRecords.{AreStarts, TypeBytes, first_record, next_record, next_start, record_fault}
use Rattle.pdb_tpi.specs.TypeRecords.{record_len, records_at, type_records, unless_faulty}

-- these starts are those of these records
record StartsOf (bytes : List ℕ) (starts : Read ℕ) (records : Read TypeBytes) : Type 0 where
  items : records_at starts.items bytes ≡ records.items
  fault : starts.fault ≡ records.fault
  there : AreStarts starts.items bytes

-- no starts are those of no records
none_of : (bytes : List ℕ) (fault : Option StreamError) → StartsOf bytes (nothing_read fault) (nothing_read fault)
none_of bytes fault = record { items = refl; fault = refl; there = λ k start is. cc }

-- with one start more they are those of one record more
one_more_of : (bytes rest : List ℕ) (start : ℕ) (starts : Read ℕ) (records : Read TypeBytes) → rest ≡ drop start bytes
    → record_fault rest ≡ None → StartsOf bytes starts records
    → StartsOf bytes (behind (start ∷ []) starts) (behind (first_record rest ∷ []) records)
one_more_of bytes rest start starts records at there others = record {
  items = ap (λ xs. first_record xs ∷ records_at starts.items bytes) (sym at)
      ∙ ap (λ xs. first_record rest ∷ xs) others.items;
  fault = others.fault;
  there = elim [
    | zero ↦ λ place is.
        let same : start ≡ place = cc in
        subst (λ n. record_fault (drop n bytes) ≡ None) same (ap record_fault (sym at) ∙ there)
    | suc k ↦ λ place is. others.there k place is
  ];
}

-- a record that is there ends within the bytes
pub ends_within : (bytes : List ℕ) → record_fault bytes ≡ None → 2 + record_len bytes ≤ length bytes
ends_within bytes there = grind (arith, common_steps, there)

-- where the record starts that is read where these bytes are left
abbrev pub start_of : ℕ → List ℕ → Result (TypeBytes × List ℕ) StreamError → Result (ℕ × List ℕ) StreamError
start_of whole bytes next = next >>= λ read. Ok (min (whole - length bytes) (2 ^ 32 - 1), read.1)

-- the starts that are read where reading stands are those of the records that are left, by whether the next one is there
starts_next : (bytes rest : List ℕ) (count : ℕ) (fault : Option StreamError) → length bytes < 2 ^ 32
    → 0 < length rest → length rest ≤ length bytes → rest ≡ drop (length bytes - length rest) bytes
    → record_fault rest ≡ fault
    → ((next : List ℕ) → length next ≤ length bytes → next ≡ drop (length bytes - length next) bytes
    → StartsOf bytes (items_up_to (next_start (length bytes)) count next) (items_up_to next_record count next))
    → StartsOf bytes (items_up_to (next_start (length bytes)) (suc count) rest)
    (items_up_to next_record (suc count) rest)
starts_next bytes rest count (Some fault) small some inside at is others =
    let first : next_record rest ≡ Err fault = ap (λ f. unless_faulty f rest) is in
    let starts : items_up_to (next_start (length bytes)) (suc count) rest ≡ nothing_read (Some fault)
    = fault_up_to (next_start (length bytes)) count rest fault some (ap (start_of (length bytes) rest) first) in
    let records : items_up_to next_record (suc count) rest ≡ nothing_read (Some fault)
    = fault_up_to next_record count rest fault some first in
    subst (λ list. StartsOf bytes list (items_up_to next_record (suc count) rest)) (sym starts)
    (subst (StartsOf bytes (nothing_read (Some fault))) (sym records) (none_of bytes (Some fault)))
starts_next bytes rest count None small some inside at is others =
    let size : ℕ = 2 + record_len rest in
    let next : List ℕ = drop size rest in
    let start : ℕ = length bytes - length rest in
    let within : size ≤ length rest = ends_within rest is in
    let left : length next ≡ length rest - size = length-drop size rest in
    let place : start + size ≡ length bytes - length next = omega (arith, left, inside, within) in
    let behind_it : next ≡ drop (length bytes - length next) bytes
    = ap (drop size) at ∙ drop-drop size start bytes ∙ ap (λ n. drop n bytes) place in
    let exact : min start (2 ^ 32 - 1) ≡ start = grind (arith, common_steps) in
    let first : next_record rest ≡ Ok (first_record rest, next) = ap (λ f. unless_faulty f rest) is in
    let starts : items_up_to (next_start (length bytes)) (suc count) rest
    ≡ behind (start ∷ []) (items_up_to (next_start (length bytes)) count next)
    = first_up_to (next_start (length bytes)) count rest (start, next) some
    (ap (start_of (length bytes) rest) first ∙ ap (λ n. Ok (n, next)) exact) in
    let records : items_up_to next_record (suc count) rest
    ≡ behind (first_record rest ∷ []) (items_up_to next_record count next)
    = first_up_to next_record count rest (first_record rest, next) some first in
    subst (λ list. StartsOf bytes list (items_up_to next_record (suc count) rest)) (sym starts)
    (subst (StartsOf bytes (behind (start ∷ []) (items_up_to (next_start (length bytes)) count next))) (sym records)
    (one_more_of bytes rest start (items_up_to (next_start (length bytes)) count next)
    (items_up_to next_record count next) at is (others next (omega (arith, left, inside)) behind_it)))

-- the starts that are read where reading stands are those of the records that are left
starts_left : (bytes : List ℕ) (count : ℕ) (rest : List ℕ) → length bytes < 2 ^ 32 → length rest ≤ length bytes
    → rest ≡ drop (length bytes - length rest) bytes
    → StartsOf bytes (items_up_to (next_start (length bytes)) count rest) (items_up_to next_record count rest)
starts_left bytes zero rest small inside at = none_of bytes None
starts_left bytes (suc count) [] small inside at = none_of bytes None
starts_left bytes (suc count) (x ∷ xs) small inside at =
    starts_next bytes (x ∷ xs) count (record_fault (x ∷ xs)) small (omega arith) inside at refl
    (λ next. starts_left bytes count next small)

-- the starts that are read are those of the records
all_starts : (bytes : List ℕ) → length bytes < 2 ^ 32
    → StartsOf bytes (all_items (next_start (length bytes)) bytes) (type_records bytes)
unfolding all_items
all_starts bytes small =
    let none : length bytes - length bytes ≡ 0 = omega arith in
    starts_left bytes (length bytes) bytes small (omega arith) (sym (ap (λ n. drop n bytes) none))

-- they are where the records start
pub starts_items : (bytes : List ℕ) → length bytes < 2 ^ 32
    → records_at (all_items (next_start (length bytes)) bytes).items bytes ≡ (type_records bytes).items
starts_items bytes small = (all_starts bytes small).items

-- they end as the records do
pub starts_fault : (bytes : List ℕ) → length bytes < 2 ^ 32
    → (all_items (next_start (length bytes)) bytes).fault ≡ (type_records bytes).fault
starts_fault bytes small = (all_starts bytes small).fault

-- a record starts at each
pub starts_there : (bytes : List ℕ) → length bytes < 2 ^ 32
    → AreStarts (all_items (next_start (length bytes)) bytes).items bytes
starts_there bytes small = (all_starts bytes small).there

pub ruleset listed = (starts_items, starts_fault, starts_there)
