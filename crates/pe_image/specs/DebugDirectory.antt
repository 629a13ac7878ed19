-- The debug directory of a program: which debug information it has, and where this is in the file.
use Rattle.std.specs.Prelude.{ℕ, ◌/◌, min, List, [], drop, length, Option, Some, None}
use Rattle.byteorder.specs.Endian.{little_number}
use Rattle.pe_image.specs.NumbersAt.{bytes_at, entries}
use Rattle.pe_image.specs.Image.{Program, bytes_from, directory}
use Rattle.pe_image.specs.declared.debug_directory.DebugEntry.{DebugEntry}
use Rattle.pe_image.specs.declared.image.DataDirectory.{DataDirectory}

-- IMAGE_DIRECTORY_ENTRY_DEBUG, the position of the debug directory among the data directories
abbrev pub image_directory_entry_debug : ℕ
image_directory_entry_debug = 6

-- IMAGE_DEBUG_TYPE_CODEVIEW, the type of debug information by which a program names its PDB file
abbrev pub image_debug_type_codeview : ℕ
image_debug_type_codeview = 2

-- IMAGE_DEBUG_DIRECTORY, an entry of 28 bytes: Type at 12, SizeOfData at 16, and PointerToRawData at 24
abbrev pub debug_entry : List ℕ → DebugEntry
debug_entry bytes = record {
  kind = little_number 4 (drop 12 bytes);
  size = little_number 4 (drop 16 bytes);
  file_offset = little_number 4 (drop 24 bytes);
}

-- the number of entries in a directory: as many as its size allows and as its section has bytes for
abbrev pub debug_entry_count : DataDirectory → List ℕ → ℕ
debug_entry_count directory bytes = min directory.size (length bytes) / 28

-- the entries of a debug directory
abbrev pub debug_entries_in : Program → Option DataDirectory → List DebugEntry
debug_entries_in program None = []
debug_entries_in program (Some directory) =
    let bytes = bytes_from program directory.rva in
    entries debug_entry 28 (debug_entry_count directory bytes) bytes

-- the entries of a program's debug directory, in file order; none if it has no such directory
abbrev pub debug_entries : Program → List DebugEntry
debug_entries program = debug_entries_in program (directory program image_directory_entry_debug)

-- the bytes of a piece of debug information; absent if the file has fewer
abbrev pub debug_data : Program → DebugEntry → Option (List ℕ)
debug_data program entry = bytes_at program.file entry.file_offset entry.size
