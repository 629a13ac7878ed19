-- The records of each module, in a records file and in its module files.
use Rattle.std.specs.Prelude.{ℕ, ◌+◌, List, [], ◌∷◌, Option, Some, None, Result, Ok, Err, get_or}
use Rattle.std.specs.Prelude.{decimal, if◌then◌else◌, codes}
use Rattle.serde_json.specs.Data.{Data, Items, no_items, item}
use Rattle.pdb_records.specs.declared.error.StreamError.{StreamError}
use Rattle.pdb_records.specs.declared.modules.ModuleInfo.{ModuleInfo}
use Rattle.pdb_json_values.specs.RecordFault.{Fault, module_not_json, ◌>>=◌, read_inside}
use Rattle.pdb_json_values.specs.Values.{array_of}
use Rattle.pdb_json_records.specs.Members.{optional_of, stream_of}
use Rattle.pdb_json_records.specs.Modules.{info_of}
use Rattle.pdb_json.specs.Json.{json_of}
use Rattle.pdb_json.specs.ModuleFiles.{stands_for_file}

-- the records of a module, `None` if it has none, or why they can't be read
abbrev pub Known : Type 0
Known = Result (Option ModuleInfo) StreamError

-- the records of a module file as those of a module
abbrev pub holding : Result ModuleInfo StreamError → Known
holding (Ok info) = Ok (Some info)
holding (Err fault) = Err fault

-- an element that has the records of a module itself: a stream of info, or null if there are none
unfoldable pub own_info_of : ℕ → Data → Result Known Fault
own_info_of version d = stream_of (optional_of (info_of version)) d

-- the value of a module file: a stream of info, and not null
unfoldable pub module_stream_of : ℕ → Data → Result Known Fault
module_stream_of version d = do
  stream ← stream_of (info_of version) d
  Ok (holding stream)

-- the records in the value of a module file, if there is one
abbrev pub module_in : ℕ → Option Data → Result Known Fault
module_in version None = Err (module_not_json [])
module_in version (Some d) = module_stream_of version d

-- the records in the bytes of a module file
unfoldable pub module_file_of : ℕ → List ℕ → Result Known Fault
module_file_of version bytes = module_in version (json_of bytes)

-- the records of an element; if it names a module file, those in the bytes of the next module file
unfoldable pub info_with : ℕ → List ℕ → Data → Result Known Fault
info_with version bytes d =
    if stands_for_file version d
    then read_inside (codes "file") (module_file_of version bytes)
    else own_info_of version d

-- the number of module files that have been read after this element
abbrev pub read_after : ℕ → ℕ → Data → ℕ
read_after version done d = if stands_for_file version d then done + 1 else done

-- the records of elements; the first has this number, and `done` module files were read before it
abbrev pub infos_from : ℕ → List (List ℕ) → (number done : ℕ) → Items → Result (List Known) Fault
infos_from version files number done no_items = Ok []
infos_from version files number done (item d ds) = do
  info ← read_inside (decimal number) (info_with version (get_or files done []) d)
  infos ← infos_from version files (number + 1) (read_after version done d) ds
  Ok (info ∷ infos)

-- the records of each module, by an array and the module files that its elements name, in order
unfoldable pub infos_of : ℕ → List (List ℕ) → Data → Result (List Known) Fault
infos_of version files d = do
  ds ← array_of d
  infos_from version files 0 0 ds
