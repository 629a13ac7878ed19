-- The size of the parameters that code takes from the stack, by its frame data and FPO data.
use Rattle.std.specs.Prelude.{ℕ, ◌+◌, ◌*◌, ◌++◌, map, List}
use Rattle.pdb_tables.specs.declared.segment.Segment.{Segment}
use Rattle.pdb_frame_data.specs.declared.fpo_data.FpoData.{FpoData}
use Rattle.pdb_frame_data.specs.declared.frame_data.FrameData.{FrameData}

-- the address range of FPO data, and the size of its parameters, given there in four-byte words
abbrev pub fpo_segment : FpoData → Segment ℕ
fpo_segment entry = record { start = entry.rva; end = entry.rva + entry.size; value = entry.parameters * 4 }

-- the address range of frame data, and the size of its parameters
abbrev pub frame_data_segment : FrameData → Segment ℕ
frame_data_segment entry = record { start = entry.rva; end = entry.rva + entry.size; value = entry.parameter_size }

-- the sizes of FPO data, and after them those of frame data, which overwrite them if both cover an address
abbrev pub parameter_sizes : List FpoData → List FrameData → List (Segment ℕ)
parameter_sizes fpo frame_data = map fpo_segment fpo ++ map frame_data_segment frame_data
