-- Names in the records of types and ids.
use Rattle.std.specs.Prelude.{ℕ, ◌+◌, List, drop, length, Some, None, Result, Ok, Err}
use Rattle.pdb_records.specs.declared.error.StreamError.{StreamError}
use Rattle.pdb_msf.specs.declared.faults.TheConstants.{CUT}
use Rattle.pdb_msf.specs.Bytes.{text_in}

-- the zero-terminated name at the start of these bytes, and the bytes after its zero
abbrev pub name_in : List ℕ → Result (List ℕ × List ℕ) StreamError
name_in bytes = elim (text_in bytes) as (λ name. Result (List ℕ × List ℕ) StreamError) [
  | None ↦ Err CUT
  | Some name ↦ Ok (name, drop (length name + 1) bytes)
]
