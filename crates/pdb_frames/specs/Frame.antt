-- The models of frames.
use Rattle.std.specs.Prelude.{ℕ, List, Option}
use Rattle.pdb_frames.specs.SourceFiles.{FileName}

-- a frame: the function's name, and the source file and the line of the code, each if it is known
pub record FrameInfo : Type 0 where
  pub function : Option (List ℕ)
  pub file : Option FileName
  pub line : Option ℕ

-- the frames of a function at an address, with the function's start and end as far as they are known
pub record FramesInfo : Type 0 where
  pub start_rva : ℕ
  pub end_rva : Option ℕ
  pub frames : List FrameInfo
