-- Frame data (FRAMEDATA): the frame layout of a range of x86 code.
use Rattle.std.specs.Prelude.{ℕ, ◌%◌, ◌==◌, List, drop, length, if◌then◌else◌}
use Rattle.pdb_records.specs.Readings.{Read}
use Rattle.pdb_msf.specs.ItemLists.{entry_list}
use Rattle.pdb_msf.specs.NumberLists.{number, two_byte_number}
use Rattle.pdb_frame_data.specs.declared.frame_data.FrameData.{FrameData}

-- an entry: ulRvaStart, cbBlock, cbLocals, cbParams, cbStkMax and frameFunc, four bytes each, then cbProlog and
-- cbSavedRegs, two bytes each; the flags after them aren't read
abbrev pub frame_data : List ℕ → FrameData
frame_data bytes = record {
  rva = number (drop 0 bytes);
  size = number (drop 4 bytes);
  local_size = number (drop 8 bytes);
  parameter_size = number (drop 12 bytes);
  max_stack_size = number (drop 16 bytes);
  program = number (drop 20 bytes);
  prologue_size = two_byte_number (drop 24 bytes);
  saved_register_size = two_byte_number (drop 26 bytes);
}

-- the part of a stream with the entries: after four bytes, unless the stream's length is a multiple of an entry's
abbrev pub aligned : List ℕ → List ℕ
aligned stream = if length stream % 32 == 0 then stream else drop 4 stream

-- the entries of a stream, 32 bytes each, up to an incomplete one
abbrev pub frame_data_list : List ℕ → Read FrameData
frame_data_list stream = entry_list frame_data 32 (aligned stream)
