-- What a module imports from other modules, and what it exports to them.
use Rattle.std.specs.Prelude.{ℕ, ◌*◌, nat_lt, List, take, drop, length, Result, Ok, Err, if◌then◌else◌}
use Rattle.pdb_records.specs.Imports.{Imported}
use Rattle.pdb_records.specs.declared.error.StreamError.{StreamError}
use Rattle.pdb_msf.specs.declared.faults.TheConstants.{CUT}
use Rattle.pdb_msf.specs.Faults.{◌>>=◌}
use Rattle.pdb_msf.specs.NumberLists.{listed, number}
use Rattle.pdb_msf.specs.Readings.{whole}
use Rattle.pdb_msf.specs.ItemLists.{all_items}

-- the import of `count` numbers, which are at the start of the bytes, from the module with this name; and the bytes
-- after it
abbrev pub import_of : ℕ → ℕ → List ℕ → Result (Imported × List ℕ) StreamError
import_of name count bytes = do
  locals ← listed count bytes
  Ok (record { module_name = record { 0 = name }; locals = locals }, drop (4 * count) bytes)

-- the first import, and the bytes after it. An import has the key of the other module's name, the count of its numbers,
-- and the numbers
abbrev pub first_import : List ℕ → Result (Imported × List ℕ) StreamError
first_import bytes =
    if nat_lt (length bytes) 4 then Err CUT else
    if nat_lt (length (drop 4 bytes)) 4 then Err CUT else
    import_of (number bytes) (number (drop 4 bytes)) (drop 4 (drop 4 bytes))

-- the imports of a module, by the bytes of its subsection (DEBUG_S_CROSSSCOPEIMPORTS); an incomplete import makes the
-- whole list an error
abbrev pub imports : List ℕ → Result (List Imported) StreamError
imports bytes = whole (all_items first_import bytes)

-- the first export, and the bytes after it. An export has localId, the number under which the module exports a type or
-- an id, and at 4 globalId, the index of the type or id
abbrev pub first_export : List ℕ → Result ((ℕ × ℕ) × List ℕ) StreamError
first_export bytes =
    if nat_lt (length bytes) 8 then Err CUT else
    Ok ((number (take 8 bytes), number (drop 4 (take 8 bytes))), drop 8 bytes)

-- the exports of a module, by the bytes of its subsection (DEBUG_S_CROSSSCOPEEXPORTS); an incomplete export makes the
-- whole list an error
abbrev pub exports : List ℕ → Result (List (ℕ × ℕ)) StreamError
exports bytes = whole (all_items first_export bytes)
