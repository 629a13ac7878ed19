-- Readings of entries that two lists share.
use Rattle.std.proofs.Common.{◌≡◌, ◌^◌, ℕ, Bool, true, false, cond, nat_lt, Ok, Err, Result}
use Rattle.std.proofs.Common.{refl, ap, subst}
use Rattle.std.specs.Result.{result_unwrap_or}
use Rattle.pdb_records.specs.Readings.{Read}
use Rattle.pdb_records.specs.declared.types.Item.{Item}
use Rattle.pdb_errors.specs.Outcomes.{and_then}
use Rattle.pdb_types.specs.ItemReading.{entry, reading}
use Rattle.pdb_types.specs.ReadError.{ReadErrorView, Missing}
use Rattle.pdb_types.specs.Resolution.{resolved}
use Rattle.pdb_types.specs.TypeInputs.{LinkInputs}
use Rattle.pdb_known.specs.SameEntries.{IsSameEntry}

-- one result after another
pub same_then : {A B E : Type 0} (r r' : Result A E) (next next' : A → Result B E) → r ≡ r'
    → ((answer : A) → r ≡ Ok answer → next answer ≡ next' answer) → and_then r next ≡ and_then r' next'
same_then {A = A} {E = E} r r' next next' e answers =
    subst (λ x. and_then r next ≡ and_then x next') e (by_read r answers) where
      by_read : (x : Result A E) → ((answer : A) → x ≡ Ok answer → next answer ≡ next' answer)
          → and_then x next ≡ and_then x next'
      by_read (Ok answer) same = same answer refl
      by_read (Err error) same = refl

-- a number, and what its entry says
abbrev paired : {D : Type 0} → ℕ → D → Result (ℕ × D) ReadErrorView
paired number content = Ok (number, content)

-- what is read by the number that an index stands for
abbrev read_by : {I D : Type 0} → (I → ℕ) → Read (Item I D) → Result ℕ ReadErrorView → Result (ℕ × D) ReadErrorView
read_by number_of list stands =
    and_then stands (λ number. and_then (entry number_of list number) (paired number))

-- an index is read alike, where its entry is the same
pub reading_same : {I D : Type 0} (number_of : I → ℕ) (link : LinkInputs) (list : Read (Item I D))
    (other_link : LinkInputs) (others : Read (Item I D)) (module_index index : ℕ)
    → IsSameEntry number_of link list other_link others module_index index
    → reading number_of link list module_index index ≡ reading number_of other_link others module_index index
reading_same {I} {D} number_of link list other_link others module_index index same =
    by_test (nat_lt index (2 ^ 32)) where
      by_test : (t : Bool) → cond t (read_by number_of list (resolved link module_index index)) (Err (Missing index))
          ≡ cond t (read_by number_of others (resolved other_link module_index index)) (Err (Missing index))
      by_test false = refl
      by_test true = same_then (resolved link module_index index) (resolved other_link module_index index)
          (λ number. and_then (entry number_of list number) (paired number))
          (λ number. and_then (entry number_of others number) (paired number))
          same.stands_for
          (λ number is. ap (λ (r : Result D ReadErrorView). and_then r (paired number))
          (same.has number is))

-- an index that was read stands for a number, and what was read is the entry under it
pub record IsReadAs {I D : Type 0} (number_of : I → ℕ) (link : LinkInputs) (list : Read (Item I D))
    (module_index index number : ℕ) (content : D) : Type 0 where
  pub stands_for : resolved link module_index index ≡ Ok number
  pub has : entry number_of list number ≡ Ok content

-- what was read by an index
pub reading_read : {I D : Type 0} (number_of : I → ℕ) (link : LinkInputs) (list : Read (Item I D))
    (module_index index number : ℕ) (content : D)
    → reading number_of link list module_index index ≡ paired number content
    → IsReadAs number_of link list module_index index number content
reading_read {I} {D} number_of link list module_index index number content =
    by_test (nat_lt index (2 ^ 32)) where
      by_entry : (n : ℕ) (stands : resolved link module_index index ≡ Ok n) (found : Result D ReadErrorView)
          → entry number_of list n ≡ found
          → and_then found (paired n) ≡ paired number content
          → IsReadAs number_of link list module_index index number content
      by_entry n stands (Ok c) is e =
          let same_number : n ≡ number = ap (λ (r : Result (ℕ × D) ReadErrorView). (result_unwrap_or r (n, c)).0) e in
          let same_content : c ≡ content = ap (λ (r : Result (ℕ × D) ReadErrorView). (result_unwrap_or r (n, c)).1) e in
          record { stands_for = rw (← same_number) stands; has = rw (← same_number, ← same_content) is }
      by_entry n stands (Err error) is e = cc

      by_stands : (stands : Result ℕ ReadErrorView) → resolved link module_index index ≡ stands
          → read_by number_of list stands ≡ paired number content
          → IsReadAs number_of link list module_index index number content
      by_stands (Ok n) is e = by_entry n is (entry number_of list n) refl e
      by_stands (Err error) is e = cc

      by_test : (t : Bool)
          → cond t (read_by number_of list (resolved link module_index index)) (Err (Missing index))
          ≡ paired number content
          → IsReadAs number_of link list module_index index number content
      by_test true e = by_stands (resolved link module_index index) refl e
      by_test false e = cc
