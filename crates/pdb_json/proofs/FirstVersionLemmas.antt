-- In the first version no element stands for a module file.
use Rattle.std.proofs.Common.{◌≡◌, ◌+◌, ℕ, List, [], length, Option, Some, None, refl}
use Rattle.std.specs.Prelude.{◌&&◌, Bool, true, false, is_some, Result, Ok, Err}
use Rattle.serde_json.specs.Data.{Data, Items, no_items, item}
use Rattle.serde_json.specs.Find.{as_array}
use Rattle.pdb_json_values.specs.RecordFault.{Fault, ◌>>=◌}
use Rattle.pdb_json_values.specs.Values.{text_of, object_of}
use Rattle.pdb_json_records.specs.NameValues.{name_of}
use Rattle.pdb_json_records.specs.Members.{member_of, all_from, list_of, optional_of, stream_of}
use Rattle.pdb_json_records.specs.Modules.{info_of}
use Rattle.pdb_json.specs.ModuleFiles.{stands_for_file, module_file_names_in_version}
use Rattle.pdb_json.specs.ModuleInfoValues.{own_info_of, info_with, infos_from, infos_of}
use Rattle.pdb_json.specs.RecordsFile.{records_in_version, counted, records_of, in_json}
use Rattle.pdb_json.specs.FirstVersion.{first_records_of_object, first_records_in, version_in}
use Rattle.pdb_json.specs.Versions.{file_version_of}

and_false : (a : Bool) → (a && false) ≡ false
and_false true = refl
and_false false = refl

and_and_false : (a b : Bool) → (a && (b && false)) ≡ false
and_and_false true true = refl
and_and_false true false = refl
and_and_false false b = refl

-- a name is a text
pub names_are_texts : (d : Data) → name_of 1 d ≡ text_of d
unfolding name_of
names_are_texts d = rw (and_false (is_some (as_array d)))

-- no element stands for a module file
stands_for_none : (d : Data) → stands_for_file 1 d ≡ false
stands_for_none d = and_and_false _ _

-- an element is read by itself
reads_itself : (bytes : List ℕ) (d : Data) → info_with 1 bytes d ≡ stream_of (optional_of (info_of 1)) d
unfolding info_with own_info_of
reads_itself bytes d = rw (stands_for_none d)

-- all elements are read by themselves
read_themselves : (number : ℕ) (ds : Items)
    → infos_from 1 [] number 0 ds ≡ all_from number (stream_of (optional_of (info_of 1))) ds
read_themselves number no_items = refl
read_themselves number (item d ds) =
    rw (stands_for_none d, reads_itself [] d, read_themselves (number + 1) ds) refl

-- what is known of each module
pub infos_by_themselves : (d : Data) → infos_of 1 [] d ≡ list_of (stream_of (optional_of (info_of 1))) d
unfolding infos_of list_of
infos_by_themselves d = simp read_themselves

-- all records of an object
pub records_by_themselves : (file : Data) → records_in_version 1 [] file ≡ first_records_of_object file
unfolding records_in_version member_of
records_by_themselves file = simp infos_by_themselves

-- a value that was read as an object of the first version
stands_over : (o : Result Data Fault) → (o >>= file_version_of) ≡ Ok 1
    → (o >>= λ file. file_version_of file >>= λ version. module_file_names_in_version version file >>= λ names.
    counted (length names) 0 (records_in_version version [] file))
    ≡ (o >>= first_records_of_object)
unfolding module_file_names_in_version
stands_over (Err fault) first = refl
stands_over (Ok file) first = rw first (records_by_themselves file)

-- what is in a value, where there is one of the first version
pub stands : (value : Option Data) → in_json version_in value ≡ Ok 1
    → (in_json Ok value >>= records_of []) ≡ in_json first_records_in value
unfolding records_of
stands None first = refl
stands (Some d) first = stands_over (object_of d) first
