-- The broken parts of the records that printing finds.
use Rattle.std.specs.Prelude.{◌≡◌, ◌⊎◌, ℕ, List, [], ◌∷◌, Some, Result, Err}
use Rattle.std.specs.List.{AllByRecursion}
use Rattle.pdb_types.specs.declared.read_error.Part.{Part}
use Rattle.pdb_types.specs.FailedParts.{Parts, with_part}
use Rattle.pdb_types.specs.ReadError.{ReadErrorView, Broken}
use Rattle.pdb_type_texts.specs.Documents.{Run}
use Rattle.pdb_type_texts.specs.PrintInputs.{PrintInputs}

-- reading something finds this part broken
abbrev pub MeetsBroken : {A : Type 0} → Result A ReadErrorView → Part → Type 0
MeetsBroken (Err (Broken met e)) part = met ≡ part
MeetsBroken other part = ⊥

-- a part is broken: because of it the type, the size or the id for some index can't be read
abbrev pub IsBroken : PrintInputs → Part → Type 0
IsBroken w part = (index : ℕ)
    × (MeetsBroken (w.read index) part ⊎ ((w.size index).met ≡ Some part) ⊎ MeetsBroken (w.read_id index) part)

-- these parts, and more
abbrev pub with_parts : Parts → List Part → Parts
with_parts failed [] = failed
with_parts failed (part ∷ parts) = with_parts (with_part failed part) parts

-- the failed parts are those from before and broken ones
pub record AddsBroken (w : PrintInputs) (old new : Parts) : Type 0 where
  pub added : List Part
  pub broken : AllByRecursion (IsBroken w) added
  pub is : new ≡ with_parts old added

-- if these parts failed, printing adds none to them
abbrev pub Settled : (Parts → Run) → Parts → Type 0
Settled printing failed = (printing failed).failed ≡ failed
