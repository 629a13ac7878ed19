-- The text of STACK WIN records, as Breakpad writes them. Numbers are in hexadecimal digits.
use Rattle.std.specs.Prelude.{ℕ, ◌*◌, Bool, true, false, List, ◌++◌, codes}
use Rattle.std.specs.Fmt.{digits}
use Rattle.pdb_frame_data.specs.declared.fpo_data.FpoData.{FpoData}
use Rattle.pdb_frame_data.specs.declared.fpo_data.FrameType.{FrameType}
use Rattle.pdb_frame_data.specs.declared.fpo_data.FrameType.TheVariants.{Fpo, NonFpo, Trap, Tss}
use Rattle.pdb_frame_data.specs.declared.frame_data.FrameData.{FrameData}
use Rattle.pdb_frame_data.specs.declared.stack_win_text.FrameSizes.{FrameSizes}

-- a number after a space
abbrev pub field : ℕ → List ℕ
field number = codes " " ++ digits 16 false number

-- the start of a record: the kind of the frame, the address and the size of the code
unfoldable pub code_fields : ℕ → ℕ → ℕ → List ℕ
code_fields frame rva size = codes "STACK WIN" ++ (field frame ++ (field rva ++ field size))

-- the sizes in a record: of the prologue, of the epilogue (0, since it isn't known), of parameters, of saved registers,
-- of local variables, and the most that is pushed
unfoldable pub size_fields : FrameSizes → List ℕ
size_fields sizes = field sizes.prologue ++ (codes " 0" ++ (field sizes.parameters ++ (field sizes.saved_registers
    ++ (field sizes.locals ++ field sizes.max_stack))))

-- the sizes in frame data
abbrev pub frame_data_sizes : FrameData → FrameSizes
frame_data_sizes entry = record {
  prologue = entry.prologue_size;
  parameters = entry.parameter_size;
  saved_registers = entry.saved_register_size;
  locals = entry.local_size;
  max_stack = entry.max_stack_size;
}

-- a 1 for "has a program", and the program, which ends the line
abbrev pub program_field : List ℕ → List ℕ
program_field program = codes " 1 " ++ (program ++ codes "\n")

-- the record of frame data: its kind is 4
abbrev pub frame_data_text : FrameData → List ℕ → List ℕ
frame_data_text entry program =
    code_fields 4 entry.rva entry.size ++ (size_fields (frame_data_sizes entry) ++ program_field program)

-- the sizes in FPO data. It counts parameters, registers and local variables in four-byte words, and doesn't have the
-- size of pushes
abbrev pub fpo_sizes : FpoData → FrameSizes
fpo_sizes entry = record {
  prologue = entry.prologue_size;
  parameters = 4 * entry.parameters;
  saved_registers = 4 * entry.saved_registers;
  locals = 4 * entry.locals;
  max_stack = 0;
}

-- the number of a kind of frame
abbrev pub frame_number : FrameType → ℕ
frame_number Fpo = 0
frame_number Trap = 1
frame_number Tss = 2
frame_number NonFpo = 3

-- the end of a record without a program: a 0, and whether the base pointer is used as a general register
abbrev pub without_program : Bool → List ℕ
without_program true = codes " 0 1\n"
without_program false = codes " 0 0\n"

-- the record of FPO data: its kind is that of the frame, and it has no program
abbrev pub fpo_text : FpoData → List ℕ
fpo_text entry = code_fields (frame_number entry.frame) entry.rva entry.size
    ++ (size_fields (fpo_sizes entry) ++ without_program entry.allocates_base_pointer)
