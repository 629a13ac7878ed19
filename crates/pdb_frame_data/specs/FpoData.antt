-- FPO data (FPO_DATA): the frame layout of an x86 function without a frame pointer.
use Rattle.std.specs.Prelude.{ℕ, ◌/◌, ◌%◌, ◌==◌, List, drop, if◌then◌else◌}
use Rattle.pdb_records.specs.Readings.{Read}
use Rattle.pdb_msf.specs.ItemLists.{entry_list}
use Rattle.pdb_msf.specs.NumberLists.{number, two_byte_number}
use Rattle.pdb_frame_data.specs.declared.fpo_data.FpoData.{FpoData}
use Rattle.pdb_frame_data.specs.declared.fpo_data.FrameType.{FrameType}
use Rattle.pdb_frame_data.specs.declared.fpo_data.FrameType.TheVariants.{Fpo, NonFpo, Trap, Tss}

-- the kind of a frame by its number
abbrev pub frame_type : ℕ → FrameType
frame_type number =
    if number == 0 then Fpo else
    if number == 1 then Trap else
    if number == 2 then Tss else
    NonFpo

-- an entry: ulOffStart, cbProcSize and cdwLocals, four bytes each, then cdwParams with two, and two bytes of bits, from
-- the lowest up: cbProlog (8), cbRegs (3), fHasSEH (1), fUseBP (1), an unused one, and cbFrame (2)
abbrev pub fpo_data : List ℕ → FpoData
fpo_data bytes = record {
  rva = number (drop 0 bytes);
  size = number (drop 4 bytes);
  locals = number (drop 8 bytes);
  parameters = two_byte_number (drop 12 bytes);
  prologue_size = two_byte_number (drop 14 bytes) % 256;
  saved_registers = two_byte_number (drop 14 bytes) / 256 % 8;
  allocates_base_pointer = two_byte_number (drop 14 bytes) / 4096 % 2 == 1;
  frame = frame_type (two_byte_number (drop 14 bytes) / 16384);
}

-- the entries of a stream, 16 bytes each, up to an incomplete one
abbrev pub fpo_data_list : List ℕ → Read FpoData
fpo_data_list stream = entry_list fpo_data 16 stream
