-- The exception directory of a program: its functions, each with the address of its unwind info.
use Rattle.std.specs.Prelude.{ℕ, ◌/◌, min, List, [], drop, length, Option, Some, None}
use Rattle.byteorder.specs.Endian.{little_number}
use Rattle.pe_image.specs.NumbersAt.{entries}
use Rattle.pe_image.specs.Image.{Program, bytes_from, directory}
use Rattle.pe_image.specs.declared.exception_directory.FunctionEntry.{FunctionEntry}
use Rattle.pe_image.specs.declared.image.DataDirectory.{DataDirectory}

-- IMAGE_DIRECTORY_ENTRY_EXCEPTION, the index of the exception directory in the list of data directories
abbrev pub image_directory_entry_exception : ℕ
image_directory_entry_exception = 3

-- RUNTIME_FUNCTION, an entry of 12 bytes: BeginAddress, EndAddress and UnwindInfoAddress
abbrev pub function_entry : List ℕ → FunctionEntry
function_entry bytes = record {
  begin = little_number 4 bytes;
  end = little_number 4 (drop 4 bytes);
  info = little_number 4 (drop 8 bytes);
}

-- the number of entries in a directory: as many as its size allows and as its section has bytes for
abbrev pub entry_count : DataDirectory → List ℕ → ℕ
entry_count directory bytes = min directory.size (length bytes) / 12

-- the entries of an exception directory
abbrev pub entries_in : Program → Option DataDirectory → List FunctionEntry
entries_in program None = []
entries_in program (Some directory) =
    let bytes = bytes_from program directory.rva in
    entries function_entry 12 (entry_count directory bytes) bytes

-- the entries of a program's exception directory, in file order; none if there is no such directory
abbrev pub function_entries : Program → List FunctionEntry
function_entries program = entries_in program (directory program image_directory_entry_exception)
