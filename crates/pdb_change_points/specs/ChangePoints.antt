-- The change points of a program: the addresses at which the function and its frames may change.
use Rattle.std.specs.Prelude.{◌≡◌, ℕ, ◌+◌, ◌^◌, ◌<◌, ◌≤◌, List, [], ◌∷◌, ◌++◌, Option, Result, Contains}
use Rattle.std.specs.Prelude.{length, slice_index}
use Rattle.std.specs.List.{flat_map}
use Rattle.pdb_records.specs.Records.{Records}
use Rattle.pdb_records.specs.declared.addresses.AddressRange.{AddressRange}
use Rattle.pdb_records.specs.declared.error.StreamError.{StreamError}
use Rattle.pdb_records.specs.declared.modules.ModuleInfo.{ModuleInfo}
use Rattle.pdb_functions.specs.GlobalFunctions.{GlobalFunction}
use Rattle.pdb_functions.specs.declared.merged_contributions.ModuleSectionContribution.{ModuleSectionContribution}
use Rattle.pdb_addr2line.specs.ContextInputs.{ContextInputs, contributions_of, global_functions_of}
use Rattle.pdb_addr2line.specs.Lookups.{contribution_at, found_at, frames_at}
use Rattle.pdb_addr2line.specs.NamedFunctions.{symbol_name_at}
use Rattle.pdb_known.specs.Known.{infos_of}
use Rattle.pdb_change_points.specs.UniqueNumbers.{HaveSameMembers}
use Rattle.pdb_change_points.specs.ModulePoints.{answer_points}
use Rattle.pdb_change_points.specs.Points.{map_points, contribution_points, global_points, IsOutside}

-- 0, and the change points of the address map, of merged contributions, of global functions and of modules
abbrev pub program_points : List AddressRange → List ModuleSectionContribution → List GlobalFunction
    → List (Result (Option ModuleInfo) StreamError) → List ℕ
program_points sections contributions globals answers =
    0 ∷ [] ++ map_points sections ++ contribution_points sections contributions ++ global_points sections globals
    ++ flat_map (answer_points sections) answers

-- the change points of the records of a context
abbrev pub change_points : ContextInputs Records → List ℕ
change_points s =
    program_points s.address_map (contributions_of s) (global_functions_of s) s.provider.module_infos

-- no number of a list is above one address and at or below another
abbrev pub NoneBetween : List ℕ → ℕ → ℕ → Type 0
NoneBetween points x y = (point : ℕ) → Contains points point → IsOutside x y point

-- an address is in the piece at a position: at or above the number there, and below the next one, if there is one
pub record LiesInPiece (points : List ℕ) (position address : ℕ) : Type 0 where
  pub listed : position < length points
  pub from : slice_index points position ≤ address
  pub below : position + 1 < length points → address < slice_index points (position + 1)
  pub fits : address < 2 ^ 32

-- a list has the change points of a context. At each address of a piece, the contribution, the function, the name of
-- its symbol and the frames are those at the start of the piece
pub record AreChangePoints (s : ContextInputs Records) (points : List ℕ) : Type 0 where
  pub members : HaveSameMembers points (change_points s)
  pub contributions : (position address : ℕ) → LiesInPiece points position address
      → contribution_at s address ≡ contribution_at s (slice_index points position)
  pub found : (position address : ℕ) → LiesInPiece points position address
      → found_at infos_of s address ≡ found_at infos_of s (slice_index points position)
  pub names : (position address : ℕ) → LiesInPiece points position address
      → symbol_name_at infos_of s address ≡ symbol_name_at infos_of s (slice_index points position)
  pub frames : (position address : ℕ) → LiesInPiece points position address
      → frames_at infos_of s address ≡ frames_at infos_of s (slice_index points position)
