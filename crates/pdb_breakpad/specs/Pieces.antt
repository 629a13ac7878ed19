-- The pieces of a program: runs of addresses with the same answer.
use Rattle.std.specs.Prelude.{◌≡◌, ◌≤◌, ◌<◌, ◌+◌, ◌^◌, ℕ, List, Option, Some, slice_get, slice_index_or}
use Rattle.std.specs.List.Sorted.{IsStrictlyIncreasing}
use Rattle.pdb_frames.specs.Frame.{FramesInfo}

-- the end of the piece at a position: the start of the next one, or 2 ^ 32
abbrev pub piece_end : List ℕ → ℕ → ℕ
piece_end points position = slice_index_or points (position + 1) (2 ^ 32)

-- the pieces at these points cover all 32-bit addresses. The answer at the first address of a piece is that at each of
-- its addresses
pub record ArePieces {S : Type 0} (answers : S → ℕ → Option FramesInfo → Type 0) (source : S) (points : List ℕ)
    : Type 0 where
  pub from_zero : slice_get points 0 ≡ Some 0
  pub ascend : IsStrictlyIncreasing points
  pub same : (position first address : ℕ) (answer : Option FramesInfo) → slice_get points position ≡ Some first
      → first ≤ address → address < piece_end points position → address < 2 ^ 32
      → answers source first answer → answers source address answer
