-- The repairs of modules that a session hasn't returned yet.
use Rattle.std.specs.Prelude.{◌≡◌, ◌==◌, ℕ, zero, suc, ◌+◌, Bool, true, List, [], ◌∷◌, ◌++◌, Option, Some, None}
use Rattle.std.specs.Prelude.{if◌then◌else◌, length, slice_get, unwrap_or, Ok}
use Rattle.std.specs.Global.{Vec}
use Rattle.std.specs.Option.{option_map_or}
use Rattle.pdb_records.specs.Records.{Records}
use Rattle.pdb_msf.specs.MsfLayout.{IfFile}
use Rattle.pdb_container.specs.ModulePlaces.{ModuleOrFault}
use Rattle.pdb_container.specs.PdbFile.{records_of}
use Rattle.pdb_repairs.specs.Repaired.{repairs_of_front, repairs_of_read}
use Rattle.pdb_repairs.specs.declared.repairs.Repair.{Repair}
use Rattle.pdb_known.specs.Known.{is_read}
use Rattle.pdb_session.specs.CodeOwners.{Owners, owner_at, owners_of}
use Rattle.pdb_session.specs.FileParts.{module_in}
use Rattle.pdb_session.specs.Session.{SessionFile}

-- the repairs of the module at a position
abbrev pub module_repairs : List ModuleOrFault → ℕ → List Repair
module_repairs modules position = repairs_of_read position (module_in modules position)

-- the repairs that are kept for the module at a position
abbrev pub kept_at : List (Vec Repair) → ℕ → List Repair
kept_at kept position = option_map_or (λ (repairs : Vec Repair). repairs.items) (slice_get kept position) []

-- the repairs of the module at a position that weren't returned yet: those that are kept if the module is marked as
-- read, otherwise all
abbrev pub untold_in : List ModuleOrFault → List Bool → List (Vec Repair) → ℕ → List Repair
untold_in modules marks kept position =
    if unwrap_or (slice_get marks position) true then kept_at kept position else module_repairs modules position

-- the repairs that weren't returned yet of each of these modules; the first module has this position
abbrev pub untold_from : List Bool → List (Vec Repair) → ℕ → List ModuleOrFault → List (List Repair)
untold_from marks kept position [] = []
untold_from marks kept position (read ∷ reads) =
    (if unwrap_or (slice_get marks position) true then kept_at kept position else repairs_of_read position read)
    ∷ untold_from marks kept (position + 1) reads

-- marks and kept repairs change, but the same repairs of each module are left to be returned
abbrev pub LeaveUntold : List ModuleOrFault → List Bool → List (Vec Repair) → List Bool → List (Vec Repair) → Type 0
LeaveUntold modules marks kept marks' kept' =
    (position : ℕ) → untold_in modules marks' kept' position ≡ untold_in modules marks kept position

-- the repairs of the module that owns the code at an address, if there is one
abbrev pub told_of : (ℕ → List Repair) → Option ℕ → List Repair
told_of untold None = []
told_of untold (Some owner) = untold owner

-- what is left of each module's repairs after those of this module were returned
abbrev pub left_of : (ℕ → List Repair) → Option ℕ → ℕ → List Repair
left_of untold None position = untold position
left_of untold (Some owner) position = if owner == position then [] else untold position

-- the repairs of the modules that own the code at these addresses, in the order of the addresses, each module once
abbrev pub told_at : Owners → (ℕ → List Repair) → List ℕ → List Repair
told_at owners untold [] = []
told_at owners untold (address ∷ addresses) =
    told_of untold (owner_at owners address) ++ told_at owners (left_of untold (owner_at owners address)) addresses

-- what is left of each module's repairs after those were returned
abbrev pub left_at : Owners → (ℕ → List Repair) → List ℕ → ℕ → List Repair
left_at owners untold [] position = untold position
left_at owners untold (address ∷ addresses) position =
    left_at owners (left_of untold (owner_at owners address)) addresses position

-- the repairs of the modules before a position, module by module
abbrev pub told_before : (ℕ → List Repair) → ℕ → List Repair
told_before untold zero = []
told_before untold (suc position) = told_before untold position ++ untold position

-- the repairs in the list at a position; none after the last list
abbrev pub repairs_at : List (List Repair) → ℕ → List Repair
repairs_at lists position = unwrap_or (slice_get lists position) []

-- the repairs of the module at a position of the file that no call of the session returned yet
abbrev pub untold_of : List ModuleOrFault → SessionFile → ℕ → List Repair
untold_of modules session position =
    if is_read session.known position then repairs_at session.kept position else module_repairs modules position

-- a condition on the records of a session's file, before repairs, if the source has a model of the file's bytes, these
-- have the right length, and they are a PDB file
abbrev pub IfRecords : SessionFile → (Records → Type 0) → Type 0
IfRecords session Holds = IfFile session.bytes session.file_length (λ file. (whole : Records)
    → records_of file ≡ Ok whole → Holds whole)

-- the same as a condition on the modules of the records
abbrev pub IfModules : SessionFile → (List ModuleOrFault → Type 0) → Type 0
IfModules session Holds = IfRecords session (λ whole. Holds whole.module_infos)

-- no repair is returned and none is lost
abbrev pub KeepsUntold : SessionFile → SessionFile → Type 0
KeepsUntold before after = IfModules before (λ modules. (position : ℕ)
    → untold_of modules after position ≡ untold_of modules before position)

-- a session returns the repairs of the modules that own the code at these addresses, if no call returned them before
pub record TellsAt (before after : SessionFile) (addresses : List ℕ) (repairs : List Repair)
    (modules : List ModuleOrFault) : Type 0 where
  pub told : repairs ≡ told_at (owners_of before.known.records) (untold_of modules before) addresses
  pub left : (position : ℕ) → untold_of modules after position
      ≡ left_at (owners_of before.known.records) (untold_of modules before) addresses position

-- a session returns the repairs of all modules, if no call returned them before
pub record TellsAll (before after : SessionFile) (repairs : List Repair) (modules : List ModuleOrFault) : Type 0 where
  pub told : repairs ≡ told_before (untold_of modules before) (length modules)
  pub left : (position : ℕ) → untold_of modules after position ≡ []

-- what was returned are the repairs of all parts of the file's records other than modules
abbrev pub TellsFront : SessionFile → List Repair → Type 0
TellsFront session repairs = IfRecords session (λ whole. repairs ≡ repairs_of_front whole)

-- no repair of a module was returned yet
abbrev pub ToldNone : SessionFile → Type 0
ToldNone session = IfModules session (λ modules. (position : ℕ)
    → untold_of modules session position ≡ module_repairs modules position)
