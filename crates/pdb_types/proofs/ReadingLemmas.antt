-- Entries that were read by an index.
use Rattle.std.proofs.Common.{◌≡◌, ◌^◌, ◌<◌, ℕ, ap, arith}
use Rattle.std.specs.Prelude.{Result, Ok, Err}
use Rattle.std.specs.Result.{result_unwrap_or}
use Rattle.std.proofs.lemmas.Bool.Decides.{nat_tests}
use Rattle.pdb_records.specs.Readings.{Read}
use Rattle.pdb_records.specs.declared.types.Item.{Item}
use Rattle.pdb_errors.specs.Outcomes.{and_then}
use Rattle.pdb_types.specs.ItemReading.{entry, reading}
use Rattle.pdb_types.specs.Resolution.{resolved}
use Rattle.pdb_types.specs.TypeInputs.{LinkInputs}
use Rattle.pdb_types.specs.ReadError.{ReadErrorView}

-- a number, and what its entry says
abbrev paired : {D : Type 0} → ℕ → D → Result (ℕ × D) ReadErrorView
paired number content = Ok (number, content)

-- the number that an index stands for, and what its entry says
abbrev read_by : {I D : Type 0} → (I → ℕ) → Read (Item I D) → Result ℕ ReadErrorView → Result (ℕ × D) ReadErrorView
read_by number_of list stands = and_then stands (λ number. and_then (entry number_of list number) (paired number))

-- an entry that was read is there
entry-read : {D : Type 0} (n number : ℕ) (content : D) (found : Result D ReadErrorView)
    → and_then found (paired n) ≡ paired number content → (n ≡ number) × (found ≡ Ok content)
entry-read {D} n number content (Ok c) e = (
  ap (λ (r : Result (ℕ × D) ReadErrorView). (result_unwrap_or r (n, c)).0) e,
  ap
      (λ (r : Result (ℕ × D) ReadErrorView). Ok (result_unwrap_or r (n, c)).1) e,
)
entry-read n number content (Err t) e = cc

-- what was read by the number that an index stands for is what the entry says that it stands for
read_by-entry : {I D : Type 0} (number_of : I → ℕ) (list : Read (Item I D)) (stands : Result ℕ ReadErrorView)
    (number : ℕ) (content : D) → read_by number_of list stands ≡ paired number content
    → entry number_of list number ≡ Ok content
read_by-entry number_of list (Ok n) number content e = let both =
    entry-read n number content (entry number_of list n) e in rw both.0 at both.1
read_by-entry number_of list (Err t) number content e = cc

-- what was read by an index is what the entry says that it stands for
pub reading-entry : {I D : Type 0} (number_of : I → ℕ) (link : LinkInputs) (list : Read (Item I D))
    (module_index index number : ℕ) (content : D)
    → reading number_of link list module_index index ≡ paired number content → entry number_of list number ≡ Ok content
reading-entry number_of link list module_index index number content read = grind (
  arith,
  nat_tests,
  read,
  read_by-entry number_of list (resolved link module_index index) number content,
)

-- only an index of 32 bits is read, whatever is made of it
pub reading-below : {I D A : Type 0} (number_of : I → ℕ) (link : LinkInputs) (list : Read (Item I D))
    (module_index index : ℕ) (made : ℕ × D → Result A ReadErrorView) (content : A)
    → and_then (reading number_of link list module_index index) made ≡ Ok content → index < 2 ^ 32
reading-below number_of link list module_index index made content read = grind (arith, nat_tests, read)
