-- The block numbers in the directory of an excerpt.
use Rattle.std.specs.Prelude.{ℕ, ◌+◌, ◌*◌, ◌<◌, ◌≤◌, List, drop, length}
use Rattle.pdb_msf.specs.NumberLists.{number}

-- the number for a block that an excerpt doesn't have; no file has so many blocks
abbrev pub no_block : ℕ
no_block = 4294967295

-- the four-byte number at a position of a directory
abbrev pub number_at : List ℕ → ℕ → ℕ
number_at directory place = number (drop (4 * place) directory)

-- the file has the complete block of this number, unless the number means no block
abbrev pub IsHeld : ℕ → List ℕ → ℕ → Type 0
IsHeld size file block = block < no_block → block * size + size ≤ length file

-- from a position of the directory on, each number means a block that the file has completely, or no block. The number
-- for no block is outside the file
pub record HoldsBlocks (size : ℕ) (file directory : List ℕ) (front : ℕ) : Type 0 where
  pub few : length file < no_block * size + size
  pub each : (place : ℕ) → front ≤ place → 4 * place + 4 ≤ length directory
      → IsHeld size file (number_at directory place)
