-- Symbol records, one by one, and positions among them.
use Rattle.std.proofs.Common.{◌≡◌, ◌∙◌, ℕ, zero, suc, ◌+◌, ◌-◌, ◌≤◌, ◌<◌, Bool, true, false, nat_lt, nat_le, List, []}
use Rattle.std.proofs.Common.{◌∷◌, ◌++◌, drop, length, get_or, Option, Result, Ok, Err, refl, sym, ap, subst, arith}
use Rattle.std.proofs.lemmas.Grind.{common_steps}
use Rattle.std.proofs.lemmas.List.Kept.{IsNonDecreasingBy-filter}
use Rattle.std.specs.Prelude.{not}
use Rattle.std.specs.List.Sorted.{IsNonDecreasingBy}
use Rattle.std.specs.List.{filter, position_from}
use Rattle.std.specs.Option.{unwrap_or}
use Rattle.pdb_records.specs.Readings.{Read}
use Rattle.pdb_records.specs.declared.error.StreamError.{StreamError}
use Rattle.pdb_msf.specs.Faults.{◌>>=◌}
use Rattle.pdb_msf.specs.ItemLists.{all_items}
use Rattle.pdb_msf.proofs.ItemListLemmas.{every_list}
use Rattle.pdb_codeview.specs.SymbolRecords.{SymbolBytes, all_records, behind_reclen, first_record, is_filler}
use Rattle.pdb_codeview.specs.SymbolRecords.{record_at, symbol_records}

-- the first position after which a test holds, of a list that is counted from any number
first_from : {X : Type 0} (p : X → Bool) (xs : List X) (i from : ℕ) → i ≤ length xs
    → ((k : ℕ) (d : X) → k < i → p (get_or xs k d) ≡ false)
    → ((k : ℕ) (d : X) → i ≤ k → k < length xs → p (get_or xs k d) ≡ true)
    → unwrap_or (position_from p from xs) (from + length xs) ≡ from + i
first_from p [] i from below before behind = omega arith
first_from p (x ∷ xs) zero from below before behind =
    let here : p x ≡ true = behind 0 x (omega arith) (omega arith) in
    grind (arith, common_steps, here)
first_from p (x ∷ xs) (suc i) from below before behind =
    let here : p x ≡ false = before 0 x (omega arith) in
    let rest : unwrap_or (position_from p (from + 1) xs) (from + 1 + length xs) ≡ from + 1 + i
    = first_from p xs i (from + 1) (omega arith) (λ k d less. before (suc k) d (omega arith))
    (λ k d more within. behind (suc k) d (omega arith) (omega arith)) in
    grind (arith, common_steps, here, rest)

-- the first position from which on a test holds
pub first_position : {X : Type 0} (p : X → Bool) (xs : List X) (i : ℕ) → i ≤ length xs
    → ((k : ℕ) (d : X) → k < i → p (get_or xs k d) ≡ false)
    → ((k : ℕ) (d : X) → i ≤ k → k < length xs → p (get_or xs k d) ≡ true)
    → i ≡ unwrap_or (position_from p 0 xs) (length xs)
first_position p xs i below before behind =
    let found : unwrap_or (position_from p 0 xs) (0 + length xs) ≡ 0 + i = first_from p xs i 0 below before behind in
    grind (arith, common_steps, found)

-- a number that is less is not as much
pub less_is_not_as_much : (a b : ℕ) → nat_lt a b ≡ true → nat_le b a ≡ false
less_is_not_as_much a b is = grind (arith, common_steps, is)

-- a number that is not less is as much
pub not_less_is_as_much : (a b : ℕ) → nat_lt a b ≡ false → nat_le b a ≡ true
not_less_is_as_much a b is = grind (arith, common_steps, is)

-- symbols that stand by where they start, none of them before a place
record AscendFrom (place : ℕ) (symbols : List SymbolBytes) : Type 0 where
  sorted : IsNonDecreasingBy (λ symbol. symbol.start) symbols
  from : (k : ℕ) (d : SymbolBytes) → k < length symbols → place ≤ (get_or symbols k d).start

-- so they do with one in front of them that starts there
one_in_front : (place later : ℕ) (symbol : SymbolBytes) (symbols : List SymbolBytes) → symbol.start ≡ place
    → place ≤ later → AscendFrom later symbols → AscendFrom place (symbol ∷ symbols)
one_in_front place later symbol symbols is onward behind = record {
  sorted = elim [
    | zero ↦ elim [
      | zero ↦ λ d before within. omega arith
      | suc j ↦ λ d before within. let there = behind.from j d (omega arith) in omega arith
    ]
    | suc i ↦ elim [
      | zero ↦ λ d before within. absurd (omega arith)
      | suc j ↦ λ d before within. behind.sorted i j d (omega arith) (omega arith)
    ]
  ];
  from = elim [
    | zero ↦ λ d within. omega arith
    | suc k ↦ λ d within. let there = behind.from k d (omega arith) in omega arith
  ];
}

-- where a record starts, and how much is left behind it
record StandsNext (end : ℕ) (bytes : List ℕ) (read : SymbolBytes × List ℕ) : Type 0 where
  starts : read.0.start ≡ end - length bytes
  left : length read.1 ≤ length bytes

stands_next : (end : ℕ) (bytes : List ℕ) (behind : Result (List ℕ) StreamError) (read : SymbolBytes × List ℕ)
    → (behind >>= λ content. Ok (record_at (end - length bytes) content, drop (2 + length content) bytes)) ≡ Ok read
    → StandsNext end bytes read
stands_next end bytes (Err fault) read is = cc
stands_next end bytes (Ok content) read is =
    let same : (record_at (end - length bytes) content, drop (2 + length content) bytes) ≡ read = cc in
    subst (StandsNext end bytes) same
    (record { starts = refl; left = grind (arith, common_steps) })

-- the records of a list stand by where they start
records_ascend : (end : ℕ) (bytes : List ℕ)
    → IsNonDecreasingBy (λ symbol. symbol.start) (all_items (first_record end) bytes).items
unfolding all_items
records_ascend end bytes =
    (every_list (first_record end) (λ rest list. AscendFrom (end - length rest) list.items)
    (λ rest fault. record { sorted = λ i j d before within. absurd (omega arith); from = λ k d within. absurd (omega arith) })
    (λ rest read others is behind.
    let next : StandsNext end rest read = stands_next end rest (behind_reclen rest) read is in
    one_in_front (end - length rest) (end - length read.1) read.0 others.items next.starts (omega (arith, next.left))
    behind)
    (length bytes) bytes).sorted

-- the records that were read, but for fillers, are the symbols
pub symbols_kept : (front : ℕ) (bytes : List ℕ) (before read kept : List SymbolBytes) (fault : Option StreamError)
    → before ≡ [] → read ≡ before ++ (all_records front bytes).items → fault ≡ (all_records front bytes).fault
    → kept ≡ filter (λ read. not (is_filler read)) read
    → record { items = kept; fault = fault } ≡ symbol_records front bytes
symbols_kept front bytes before read kept fault none all ends is =
    let items : read ≡ (all_records front bytes).items = all ∙ ap (λ xs. xs ++ (all_records front bytes).items) none in
    ap (λ xs. record { items = xs; fault = fault }) (is ∙ ap (filter (λ read. not (is_filler read))) items)
    ∙ ap (λ f. record { items = (symbol_records front bytes).items; fault = f }) ends

-- the symbols stand by where they start
pub symbols_ascend : (front : ℕ) (bytes : List ℕ) (symbols : Read SymbolBytes) → symbols ≡ symbol_records front bytes
    → IsNonDecreasingBy (λ symbol. symbol.start) symbols.items
symbols_ascend front bytes symbols is =
    subst (λ list. IsNonDecreasingBy (λ symbol. symbol.start) list.items) (sym is)
    (IsNonDecreasingBy-filter (λ symbol. symbol.start) (λ read. not (is_filler read)) (all_records front bytes).items
    (records_ascend (front + length bytes) bytes))
