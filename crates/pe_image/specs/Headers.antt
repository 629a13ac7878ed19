-- The headers of a program (an EXE or a DLL, PE32 or PE32+), and where their tables are.
use Rattle.std.specs.Prelude.{ℕ, ◌+◌, ◌==◌, ◌&&◌, nat_le, min, List, Option, Some, None, if◌then◌else◌}
use Rattle.pe_image.specs.NumbersAt.{◌>>=◌, number_at}
use Rattle.pe_image.specs.declared.headers.Headers.{Headers}
use Rattle.pe_image.specs.declared.headers.Table.{Table}
use Rattle.pe_image.specs.declared.headers.OptionalForm.{OptionalForm}
use Rattle.pe_image.specs.declared.headers.OptionalForm.TheVariants.{Pe32, Pe32Plus}

-- IMAGE_DOS_SIGNATURE, the letters MZ
abbrev pub image_dos_signature : ℕ
image_dos_signature = 0x5a4d

-- IMAGE_NT_SIGNATURE, the letters PE and two zeros
abbrev pub image_nt_signature : ℕ
image_nt_signature = 0x4550

-- the offset of the COFF file header: after the signature, whose offset is e_lfanew, at 0x3c
abbrev pub coff_header : List ℕ → Option ℕ
coff_header file = do
  magic ← number_at 2 file 0
  at ← number_at 4 file 0x3c
  signature ← number_at 4 file at
  if (magic == image_dos_signature) && (signature == image_nt_signature) then Some (at + 4) else None

-- the form of the optional header, PE32 or PE32+, by its first number
abbrev pub optional_form : ℕ → Option OptionalForm
optional_form magic = if magic == 0x10b then Some Pe32 else if magic == 0x20b then Some Pe32Plus else None

-- the image base, which has four bytes in a PE32 and eight in a PE32+, by the offset of the optional header
abbrev pub image_base : OptionalForm → List ℕ → ℕ → Option ℕ
image_base Pe32 file optional = number_at 4 file (optional + 28)
image_base Pe32Plus file optional = number_at 8 file (optional + 24)

-- where NumberOfRvaAndSizes is in the optional header; the data directories follow it
abbrev pub directory_count_at : OptionalForm → ℕ
directory_count_at Pe32 = 92
directory_count_at Pe32Plus = 108

-- the data directories that a program has: as many as NumberOfRvaAndSizes says, at most 16
abbrev pub directories_at : OptionalForm → List ℕ → ℕ → Option Table
directories_at form file optional = do
  count ← number_at 4 file (optional + directory_count_at form)
  Some (record { at = optional + directory_count_at form + 4; count = min count 16 })

-- the table of section headers: after the optional header, with NumberOfSections entries, at most 96 as in a program
-- that systems load
abbrev pub sections_at : List ℕ → ℕ → Option Table
sections_at file coff = do
  count ← number_at 2 file (coff + 2)
  size ← number_at 2 file (coff + 16)
  if nat_le count 96 then Some (record { at = coff + 20 + size; count = count }) else None

-- the headers of a program, by the offset of its COFF file header. That header has the machine at 0 and TimeDateStamp
-- at 4. In the optional header after it, SizeOfImage has the same offset in both forms
abbrev pub headers_at : List ℕ → ℕ → Option Headers
headers_at file coff = do
  machine ← number_at 2 file coff
  stamp ← number_at 4 file (coff + 4)
  magic ← number_at 2 file (coff + 20)
  form ← optional_form magic
  base ← image_base form file (coff + 20)
  size ← number_at 4 file (coff + 76)
  sections ← sections_at file coff
  directories ← directories_at form file (coff + 20)
  Some (record {
    machine = machine;
    time_stamp = stamp;
    image_base = base;
    image_size = size;
    sections = sections;
    directories = directories;
  })

-- the headers of a program; absent if the file has none
abbrev pub headers_of : List ℕ → Option Headers
headers_of file = coff_header file >>= headers_at file
