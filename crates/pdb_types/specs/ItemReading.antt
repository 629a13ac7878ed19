-- Reading types and ids by an index in a module.
use Rattle.std.specs.Prelude.{ℕ, ◌^◌, Option, Some, None, Result, Ok, Err, nat_lt, if◌then◌else◌}
use Rattle.pdb_records.specs.Readings.{Read}
use Rattle.pdb_records.specs.declared.error.StreamError.{StreamError}
use Rattle.pdb_records.specs.declared.types.Item.{Item}
use Rattle.pdb_types.specs.ItemMap.{absence, first_item}
use Rattle.pdb_errors.specs.Outcomes.{and_then}
use Rattle.pdb_types.specs.Resolution.{answered, resolved}
use Rattle.pdb_types.specs.TypeInputs.{LinkInputs}
use Rattle.pdb_types.specs.ReadError.{ReadErrorView, Missing, read_error_view_by}

-- the content of the entry that was found, or why there is none
abbrev pub said : {I D : Type 0} → Option StreamError → ℕ → Option (Item I D) → Result D ReadErrorView
said fault number None = Err (read_error_view_by (absence fault number))
said fault number (Some item) = answered item.content

-- the content of the first entry with this number
abbrev pub entry : {I D : Type 0} → (I → ℕ) → Read (Item I D) → ℕ → Result D ReadErrorView
entry number_of list number = said list.fault number (first_item number_of number list.items)

-- the number that a 32-bit index of a module means, and the content of its entry; greater indices can't be read
abbrev pub reading : {I D : Type 0} → (I → ℕ) → LinkInputs → Read (Item I D) → ℕ → ℕ
    → Result (ℕ × D) ReadErrorView
reading number_of link list module_index index = if nat_lt index (2 ^ 32) then
    and_then (resolved link module_index index) (λ number.
    and_then (entry number_of list number) (λ content.
    Ok (number, content)))
    else Err (Missing index)
