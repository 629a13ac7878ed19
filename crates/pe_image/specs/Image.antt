-- A program (an EXE or a DLL, PE32 or PE32+): its sections, its data directories, and the bytes at its addresses.
use Rattle.std.specs.Prelude.{ℕ, ◌+◌, ◌-◌, ◌*◌, ◌/◌, ◌%◌, ◌==◌, ◌&&◌, nat_lt, nat_le, Bool, List, [], find, take, drop}
use Rattle.std.specs.Prelude.{Option, Some, None, slice_get}
use Rattle.byteorder.specs.Endian.{little_number}
use Rattle.pe_image.specs.Headers.{headers_of}
use Rattle.pe_image.specs.NumbersAt.{◌>>=◌, bytes_at, entries}
use Rattle.pe_image.specs.declared.headers.Headers.{Headers}
use Rattle.pe_image.specs.declared.image.DataDirectory.{DataDirectory}
use Rattle.pe_image.specs.declared.image.Section.{Section}

-- IMAGE_FILE_MACHINE_AMD64, the machine of programs for x64
abbrev pub image_file_machine_amd64 : ℕ
image_file_machine_amd64 = 0x8664

-- a section of a program: its address in the loaded program, and the range of its bytes in the file
abbrev pub section_header : List ℕ → Section
section_header bytes = record {
  rva = little_number 4 (drop 12 bytes);
  size = little_number 4 (drop 8 bytes);
  file_offset = little_number 4 (drop 20 bytes);
  file_size = little_number 4 (drop 16 bytes);
  characteristics = little_number 4 (drop 36 bytes);
}

-- IMAGE_SCN_MEM_EXECUTE, the characteristic of a section whose bytes can be executed
abbrev pub image_scn_mem_execute : ℕ
image_scn_mem_execute = 0x20000000

-- whether the bytes of a section can be executed
abbrev pub is_executable : Section → Bool
is_executable section = section.characteristics / image_scn_mem_execute % 2 == 1

-- an entry of the table of data directories: the address of a table, and its size
abbrev pub data_directory : List ℕ → DataDirectory
data_directory bytes = record { rva = little_number 4 bytes; size = little_number 4 (drop 4 bytes) }

-- a program: the bytes of its file, and the fields of its headers
pub record Program : Type 0 where
  pub file : List ℕ
  pub machine : ℕ
  pub time_stamp : ℕ
  pub image_base : ℕ
  pub image_size : ℕ
  pub sections : List Section
  pub directories : List DataDirectory

-- the program in a file, by its headers; absent if a section header or a data directory is missing
abbrev pub program_by : List ℕ → Headers → Option Program
program_by file headers = do
  sections ← bytes_at file headers.sections.at (40 * headers.sections.count)
  directories ← bytes_at file headers.directories.at (8 * headers.directories.count)
  Some (record {
    file = file;
    machine = headers.machine;
    time_stamp = headers.time_stamp;
    image_base = headers.image_base;
    image_size = headers.image_size;
    sections = entries section_header 40 headers.sections.count sections;
    directories = entries data_directory 8 headers.directories.count directories;
  })

-- the program in a file, if it has one
abbrev pub program_of : List ℕ → Option Program
program_of file = headers_of file >>= program_by file

-- whether a section's bytes in the file include an address
abbrev pub holds : ℕ → Section → Bool
holds rva section = nat_le section.rva rva && nat_lt rva (section.rva + section.file_size)

-- the bytes of a section from an address on, as far as the file has them
abbrev pub section_bytes : List ℕ → ℕ → Section → List ℕ
section_bytes file rva section = drop (rva - section.rva) (take section.file_size (drop section.file_offset file))

-- the bytes from an address to the end of its section; none if no section has the address
abbrev pub bytes_in : List ℕ → ℕ → Option Section → List ℕ
bytes_in file rva None = []
bytes_in file rva (Some section) = section_bytes file rva section

-- the bytes from an address on, in the first section that has it
abbrev pub bytes_from : Program → ℕ → List ℕ
bytes_from program rva = bytes_in program.file rva (find (holds rva) program.sections)

-- the data directory at a position, if there is one
abbrev pub directory : Program → ℕ → Option DataDirectory
directory program position = slice_get program.directories position
