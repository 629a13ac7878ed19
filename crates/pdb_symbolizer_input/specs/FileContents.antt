-- What is known of the bytes of a file.
use Rattle.std.specs.Prelude.{ℕ, List, Option, Some, None}
use Rattle.pdb_symbolizer_input.specs.declared.file_bytes.FileBytes.{FileBytes}
use Rattle.pdb_symbolizer_input.specs.declared.file_bytes.FileBytes.TheVariants.{InMemory, OnDisk}

-- the bytes of a file in memory; those of a file on disk aren't known before they are read
abbrev pub known_bytes : {F : Type 0} → FileBytes F → Option (List ℕ)
known_bytes (InMemory bytes) = Some bytes.items
known_bytes (OnDisk file file_length stamp) = None
