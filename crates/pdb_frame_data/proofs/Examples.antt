-- Worked examples: frame data, FPO data and program strings written by hand, and the records of them.
use Rattle.std.proofs.Common.{◌≡◌, ℕ, true, List, [], ◌∷◌, ◌++◌, Some, None, Ok, Err, refl}
use Rattle.std.specs.Fmt.{digits}
use Rattle.std.specs.Prelude.{codes, replicate}
use Rattle.std.specs.Str.{chars, is_utf8}
use Rattle.pdb_msf.specs.ItemLists.{all_items}
use Rattle.pdb_msf.specs.declared.faults.TheConstants.{CUT, NO_STREAM}
use Rattle.pdb_frame_data.specs.FpoData.{fpo_data}
use Rattle.pdb_frame_data.specs.FrameData.{frame_data, frame_data_list}
use Rattle.pdb_frame_data.specs.StackWin.{Records, program_in, records_by}
use Rattle.pdb_frame_data.specs.StackWinText.{code_fields, size_fields}
use Rattle.pdb_frame_data.specs.declared.fpo_data.FpoData.{FpoData}
use Rattle.pdb_frame_data.specs.declared.fpo_data.FrameType.TheVariants.{Tss}
use Rattle.pdb_frame_data.specs.declared.frame_data.FrameData.{FrameData}
use Rattle.pdb_frame_data.specs.declared.omitted_frame_data.FrameDataError.TheVariants.{BadProgram, Empty, LongProgram, NoProgram, TooLarge}

-- numbers below 65536, as two and four bytes
abbrev two : ℕ → ℕ → List ℕ
two low high = low ∷ high ∷ []

abbrev four : ℕ → ℕ → List ℕ
four low high = low ∷ high ∷ 0 ∷ 0 ∷ []

-- code at 0x1010 of 18 bytes, with 20 bytes of local variables, 8 of parameters, at most 12 pushed, the program at 1, a
-- prologue of 4 bytes, and 16 bytes of saved registers; it starts a function
abbrev entry_bytes : List ℕ
entry_bytes = four 0x10 0x10 ++ four 18 0 ++ four 20 0 ++ four 8 0 ++ four 12 0 ++ four 1 0 ++ two 4 0 ++ two 16 0
    ++ four 4 0

abbrev entry : FrameData
entry = record {
  rva = 0x1010;
  size = 18;
  local_size = 20;
  parameter_size = 8;
  max_stack_size = 12;
  program = 1;
  prologue_size = 4;
  saved_register_size = 16;
}

entry_is_read : frame_data entry_bytes ≡ entry
entry_is_read = refl

-- an entry stands first, or after four bytes
entry_stands_first : frame_data_list entry_bytes ≡ record { items = entry ∷ []; fault = None }
unfolding all_items
entry_stands_first = refl

entry_stands_behind : frame_data_list (four 0 0 ++ entry_bytes) ≡ record { items = entry ∷ []; fault = None }
unfolding all_items
entry_stands_behind = refl

-- code at 0x165f of 20 bytes, with 3 locals and 2 parameters of four bytes each, a prologue of 5 bytes, 3 saved
-- registers, the base pointer used as another, and the frame of a task
abbrev fpo_bytes : List ℕ
fpo_bytes = four 0x5f 0x16 ++ four 20 0 ++ four 3 0 ++ two 2 0 ++ two 5 0x93

abbrev fpo : FpoData
fpo = record {
  rva = 0x165f;
  size = 20;
  locals = 3;
  parameters = 2;
  prologue_size = 5;
  saved_registers = 3;
  allocates_base_pointer = true;
  frame = Tss;
}

fpo_is_read : fpo_data fpo_bytes ≡ fpo
fpo_is_read = refl

-- program strings after twelve bytes: an empty one, one that moves the return address up, and one with a line break
abbrev strings : List ℕ
strings = replicate 12 7 ++ (0 ∷ codes "$eip $T0 ^ = " ++ (0 ∷ codes "a" ++ (10 ∷ 0 ∷ 65 ∷ [])))

abbrev text_of_entry : List ℕ
text_of_entry = codes "STACK WIN 4 1010 12 4 0 8 10 14 c 1 $eip $T0 ^ = \n"

abbrev text_of_fpo : List ℕ
text_of_fpo = codes "STACK WIN 2 165f 14 5 0 8 c c 0 0 1\n"

abbrev both : Records
both = record {
  text = text_of_entry ++ text_of_fpo;
  left_out = [];
  frame_data_fault = None;
  fpo_fault = None;
  parameter_sizes = record { start = 0x165f; end = 0x1673; value = 8 }
      ∷ record { start = 0x1010; end = 0x1022; value = 8 } ∷ [];
}

records_of_both : records_by (Ok entry_bytes) (Ok fpo_bytes) strings ≡ both
unfolding all_items code_fields size_fields is_utf8 chars digits lib.Utf8.encode
records_of_both = refl

-- without a stream of FPO data the frame data has its record still
abbrev only_frame_data : Records
only_frame_data = record {
  text = text_of_entry;
  left_out = [];
  frame_data_fault = None;
  fpo_fault = Some NO_STREAM;
  parameter_sizes = record { start = 0x1010; end = 0x1022; value = 8 } ∷ [];
}

records_of_one : records_by (Ok entry_bytes) (Err NO_STREAM) strings ≡ only_frame_data
unfolding all_items code_fields size_fields is_utf8 chars digits lib.Utf8.encode
records_of_one = refl

-- code of no bytes, code up to the last address and one byte past it, a program that isn't there, and one of two lines
abbrev broken : ℕ → List ℕ → List ℕ → List ℕ
broken rva size program = (rva ∷ 0xff ∷ 0xff ∷ 0xff ∷ []) ++ size ++ replicate 12 0 ++ program ++ replicate 8 0

abbrev broken_entries : List ℕ
broken_entries = broken 0xf0 (four 0 0) (four 1 0) ++ broken 0xf0 (four 17 0) (four 1 0)
    ++ broken 0xf0 (four 16 0) (four 99 0) ++ broken 0xf0 (four 16 0) (four 15 0)

abbrev none : Records
none = record {
  text = [];
  left_out = record { rva = 0xfffffff0; why = Empty } ∷ record { rva = 0xfffffff0; why = TooLarge }
      ∷ record { rva = 0xfffffff0; why = NoProgram } ∷ record { rva = 0xfffffff0; why = BadProgram } ∷ [];
  frame_data_fault = None;
  fpo_fault = Some CUT;
  parameter_sizes = record { start = 0xfffffff0; end = 0xfffffff0; value = 0 }
      ∷ record { start = 0xfffffff0; end = 0x100000001; value = 0 }
      ∷ record { start = 0xfffffff0; end = 0x100000000; value = 0 }
      ∷ record { start = 0xfffffff0; end = 0x100000000; value = 0 } ∷ [];
}

records_of_none : records_by (Ok broken_entries) (Ok (1 ∷ [])) strings ≡ none
unfolding all_items
records_of_none = refl

-- a program string has at most 4095 bytes: a longer one is refused though a zero ends it, and a shorter one without a zero
-- isn't there
long_program_is_refused : program_in (replicate 4096 65 ++ (0 ∷ [])) ≡ Err LongProgram
long_program_is_refused = refl

program_without_a_zero_is_missing : program_in (replicate 4095 65) ≡ Err NoProgram
program_without_a_zero_is_missing = refl
