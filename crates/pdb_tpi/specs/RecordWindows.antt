-- Windows over the records of a stream that is read range by range.
use Rattle.std.specs.Prelude.{◌≡◌, ℕ, ◌-◌, ◌==◌, nat_lt, List, [], take, drop, length, None, if◌then◌else◌}
use Rattle.pdb_tpi.specs.TypeRecords.{first_record, record_fault, record_len}
use Rattle.pdb_tpi.specs.declared.record_window.RecordRange.{RecordRange}
use Rattle.pdb_tpi.specs.declared.record_window.RecordWindow.{RecordWindow}

-- the bytes of the records in this range of a stream
abbrev pub records_in : RecordRange → List ℕ → List ℕ
records_in range stream = take range.length (drop range.place stream)

-- a window has bytes of these records, from its start on
abbrev pub Shows : List ℕ → RecordWindow → Type 0
Shows records window = window.bytes.items ≡ take (length window.bytes.items) (drop window.from records)

-- the bytes that a window has from this offset on
abbrev pub shown_at : RecordWindow → ℕ → List ℕ
shown_at window place = if nat_lt place window.from then [] else drop (place - window.from) window.bytes.items

-- both byte strings begin with the same record, or with the same fault
pub record SameRecord (front bytes : List ℕ) : Type 0 where
  pub none : (length front == 0) ≡ (length bytes == 0)
  pub fault : record_fault front ≡ record_fault bytes
  pub size : record_fault bytes ≡ None → record_len front ≡ record_len bytes
  pub first : record_fault bytes ≡ None → first_record front ≡ first_record bytes
