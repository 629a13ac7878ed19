-- Lists of items that follow one another until the bytes end, and such lists in several subsections.
use Rattle.std.specs.Prelude.{ℕ, zero, suc, ◌-◌, ◌==◌, nat_lt, List, [], ◌∷◌, take, drop, length}
use Rattle.std.specs.Prelude.{Option, Some, None, Result, Ok, Err, if◌then◌else◌}
use Rattle.pdb_records.specs.Readings.{Read}
use Rattle.pdb_records.specs.declared.error.StreamError.{StreamError}
use Rattle.pdb_msf.specs.Bytes.{padding}
use Rattle.pdb_msf.specs.Faults.{◌>>=◌}
use Rattle.pdb_msf.specs.Readings.{behind, nothing_read}
use Rattle.pdb_msf.specs.declared.faults.TheConstants.{CUT}

-- the items of these bytes, at most `count`; `first` reads one item and gives the bytes after it. The first fault ends
-- the list
abbrev pub items_up_to : {A : Type 0} → (List ℕ → Result (A × List ℕ) StreamError) → ℕ → List ℕ → Read A
items_up_to first zero bytes = nothing_read None
items_up_to {A = A} first (suc count) bytes =
    if length bytes == 0 then nothing_read None else
    elim (first bytes) as (λ read. Read A) [
      | Err fault ↦ nothing_read (Some fault)
      | Ok read ↦ behind (read.0 ∷ []) (items_up_to first count read.1)
    ]

-- all items of these bytes. Each item takes at least one byte, so there are at most as many items as bytes
unfoldable pub all_items : {A : Type 0} → (List ℕ → Result (A × List ℕ) StreamError) → List ℕ → Read A
all_items first bytes = items_up_to first (length bytes) bytes

-- the first item, and the bytes after its padding to a multiple of four
abbrev pub first_padded : {A : Type 0} → (List ℕ → Result (A × List ℕ) StreamError) → List ℕ
    → Result (A × List ℕ) StreamError
first_padded first bytes = do
  read ← first bytes
  Ok (read.0, drop (padding (length bytes - length read.1)) read.1)

-- the first entry of this size, and the bytes after it; an incomplete entry is `CUT`
abbrev pub first_entry : {A : Type 0} → (List ℕ → A) → ℕ → List ℕ → Result (A × List ℕ) StreamError
first_entry entry size bytes =
    if nat_lt (length bytes) size then Err CUT else Ok (entry (take size bytes), drop size bytes)

-- all entries of one size, each read by its own bytes
abbrev pub entry_list : {A : Type 0} → (List ℕ → A) → ℕ → List ℕ → Read A
entry_list entry size bytes = all_items (first_entry entry size) bytes

-- items with the list that is read after them; if they end with a fault, nothing more is read
abbrev pub unless_broken : {A : Type 0} → Option StreamError → List A → Read A → Read A
unless_broken None items rest = behind items rest
unless_broken (Some fault) items rest = record { items = items; fault = Some fault }

-- the items of several lists in order, up to the first fault
abbrev pub concatenated : {A B : Type 0} → (B → Read A) → List B → Read A
concatenated items [] = nothing_read None
concatenated items (list ∷ rest) = unless_broken (items list).fault (items list).items (concatenated items rest)
