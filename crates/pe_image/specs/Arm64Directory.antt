-- The exception directory of a program for ARM64: its functions, each with its packed unwind data or the address of its
-- unwind info.
use Rattle.std.specs.Prelude.{ℕ, ◌/◌, min, List, [], drop, length, Option, Some, None}
use Rattle.byteorder.specs.Endian.{little_number}
use Rattle.pe_image.specs.NumbersAt.{entries}
use Rattle.pe_image.specs.ExceptionDirectory.{image_directory_entry_exception}
use Rattle.pe_image.specs.Image.{Program, bytes_from, directory}
use Rattle.pe_image.specs.declared.arm64_directory.Arm64Entry.{Arm64Entry}
use Rattle.pe_image.specs.declared.image.DataDirectory.{DataDirectory}

-- IMAGE_FILE_MACHINE_ARM64, the machine of programs for ARM64
abbrev pub image_file_machine_arm64 : ℕ
image_file_machine_arm64 = 0xaa64

-- IMAGE_ARM64_RUNTIME_FUNCTION_ENTRY, an entry of 8 bytes: BeginAddress and UnwindData
abbrev pub arm64_entry : List ℕ → Arm64Entry
arm64_entry bytes = record { begin = little_number 4 bytes; unwind = little_number 4 (drop 4 bytes) }

-- the number of entries in a directory: as many as its size allows and as its section has bytes for
abbrev pub arm64_entry_count : DataDirectory → List ℕ → ℕ
arm64_entry_count directory bytes = min directory.size (length bytes) / 8

-- the entries of an exception directory
abbrev pub arm64_entries_in : Program → Option DataDirectory → List Arm64Entry
arm64_entries_in program None = []
arm64_entries_in program (Some directory) =
    let bytes = bytes_from program directory.rva in
    entries arm64_entry 8 (arm64_entry_count directory bytes) bytes

-- the entries of the exception directory of a program for ARM64, in file order; none if it has no such directory
abbrev pub arm64_entries : Program → List Arm64Entry
arm64_entries program = arm64_entries_in program (directory program image_directory_entry_exception)
