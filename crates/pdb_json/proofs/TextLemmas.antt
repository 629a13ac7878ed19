-- What the value of a text shows is what the text shows.
use Rattle.std.proofs.Common.{◌≡◌, ℕ, List, Ok}
use Rattle.serde_json.specs.Data.{Data}
use Rattle.pdb_json_values.specs.declared.record_fault.RecordFault.{RecordFault}
use Rattle.pdb_json_values.specs.RecordFault.{IsFaultOf}
use Rattle.pdb_json_values.proofs.FaultLemmas.{fault_ends}
use Rattle.pdb_json.specs.RecordsFile.{value_of, records_of, records_of_files, wanted_files_of, module_files_of}

-- the fault of a text is that of the names of its module files
pub text_shows_no_modules : (bytes : List ℕ) (fault : RecordFault) → IsFaultOf fault (value_of bytes)
    → IsFaultOf fault (module_files_of bytes)
unfolding module_files_of
text_shows_no_modules bytes fault refused = fault_ends fault (value_of bytes) wanted_files_of refused

-- the names of the module files that a value wants are those that its text wants
pub wanted_by_text : (bytes : List ℕ) (value : Data) → value_of bytes ≡ Ok value
    → module_files_of bytes ≡ wanted_files_of value
unfolding module_files_of
wanted_by_text bytes value is_value = rw is_value

-- the records of a value are those of its text
pub records_by_text : (bytes : List ℕ) (files : List (List ℕ)) (value : Data) → value_of bytes ≡ Ok value
    → records_of_files bytes files ≡ records_of files value
unfolding records_of_files
records_by_text bytes files value is_value = rw is_value
