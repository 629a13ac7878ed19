-- Entries of a list of types or ids, found by their index.
use Rattle.std.specs.Prelude.{ℕ, ◌==◌, List, Option, Some, None, Result, Ok, Err, find}
use Rattle.pdb_records.specs.Readings.{Read}
use Rattle.pdb_records.specs.declared.types.Item.{Item}
use Rattle.pdb_records.specs.declared.error.StreamError.{StreamError}
use Rattle.pdb_records.specs.declared.error.Error as records
use Rattle.pdb_records.specs.declared.error.Error.TheVariants.{Stream, TypeNotFound}
use Rattle.pdb_errors.specs.declared.error.Error.{Error}
use Rattle.pdb_errors.specs.declared.error.Error.TheVariants.{PdbError}

-- the number of an entry's index
abbrev pub index_number : {I D : Type 0} → (I → ℕ) → Item I D → ℕ
index_number number_of item = number_of item.index

-- the first entry whose index has this number
abbrev pub first_item : {I D : Type 0} → (I → ℕ) → ℕ → List (Item I D) → Option (Item I D)
first_item number_of number items = find (λ item. number_of item.index == number) items

-- why an index has no entry: the list has a fault, or no entry has this index
abbrev pub absence : Option StreamError → ℕ → records.Error
absence None number = TypeNotFound number
absence (Some fault) number = Stream fault

-- the entry that was found, or why there is none
abbrev pub found_or_missing : {I D : Type 0} → Option StreamError → ℕ → Option (Item I D) → Result (Item I D) Error
found_or_missing fault number None = Err (PdbError (absence fault number))
found_or_missing fault number (Some item) = Ok item

-- the entry of an index: the first with its number
abbrev pub item_of : {I D : Type 0} → (I → ℕ) → Read (Item I D) → ℕ → Result (Item I D) Error
item_of number_of read number = found_or_missing read.fault number (first_item number_of number read.items)
