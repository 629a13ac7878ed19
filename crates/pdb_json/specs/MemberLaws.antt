-- Laws on the paths of faults in members and elements.
use Rattle.std.specs.Prelude.{◌≡◌, ℕ, ◌+◌, List, Some, Result, Err, unwrap_or, decimal}
use Rattle.serde_json.specs.Data.{Data, null, Items}
use Rattle.serde_json.specs.Find.{get, get_item}
use Rattle.pdb_json_values.specs.RecordFault.{Fault, inside}

-- a fault in a member: its path leads through the member and then into its value, which is null if the member is
-- missing
pub record IsInMember {X : Type 0} (read : Data → Result X Fault) (name : List ℕ) (d : Data) (fault : Fault)
    : Type 0 where
  pub own : Fault
  pub refused : read (unwrap_or (get name d) null) ≡ Err own
  pub path : fault ≡ inside name own

-- a fault in an element: its path leads through the number of the element and then into the element; `first` is the
-- number of the first element
pub record IsInElement {X : Type 0} (read : Data → Result X Fault) (first : ℕ) (elements : Items) (fault : Fault)
    : Type 0 where
  pub number : ℕ
  pub element : Data
  pub there : get_item number elements ≡ Some element
  pub own : Fault
  pub refused : read element ≡ Err own
  pub path : fault ≡ inside (decimal (first + number)) own
