-- A program written by hand: one section, and an exception directory of two entries.
use Rattle.std.proofs.Common.{◌≡◌, ℕ, true, List, [], ◌∷◌, ◌++◌, Some, None, refl}
use Rattle.std.specs.Prelude.{replicate}
use Rattle.pe_image.specs.Arm64Directory.{arm64_entries}
use Rattle.pe_image.specs.ExceptionDirectory.{function_entries}
use Rattle.pe_image.specs.Image.{Program, bytes_from, is_executable, program_of}
use Rattle.pe_image.specs.declared.image.Section.{Section}

-- numbers below 256, as two, four and eight bytes
abbrev two : ℕ → List ℕ
two number = number ∷ 0 ∷ []

abbrev four : ℕ → List ℕ
four number = number ∷ 0 ∷ 0 ∷ 0 ∷ []

abbrev eight : ℕ → List ℕ
eight number = four number ++ four 0

-- MZ, and e_lfanew: the headers are at 64
abbrev dos_header : List ℕ
dos_header = 0x4d ∷ 0x5a ∷ replicate 58 0 ++ four 64

-- the signature; the machine 0x8664, one section, the time stamp 1, and an optional header of 144 bytes
abbrev coff : List ℕ
coff = 0x50 ∷ 0x45 ∷ 0 ∷ 0 ∷ [] ++ (0x64 ∷ 0x86 ∷ two 1 ++ four 1 ++ replicate 8 0 ++ two 144 ++ two 0)

-- a PE32+ with the image base 16, a size of 96, and four data directories, of which the last is at 80, with 24 bytes
abbrev optional : List ℕ
optional = 0x0b ∷ 2 ∷ replicate 22 0 ++ eight 16 ++ replicate 24 0 ++ four 96 ++ replicate 48 0 ++ four 4
    ++ replicate 24 0 ++ four 80 ++ four 24

-- a section at 64 with 48 bytes in memory; its bytes in the file are 40, at 272; it has code, and can be read and
-- executed
abbrev section : List ℕ
section = replicate 8 0 ++ four 48 ++ four 64 ++ four 40 ++ (16 ∷ 1 ∷ 0 ∷ 0 ∷ []) ++ replicate 12 0
    ++ (0x20 ∷ 0 ∷ 0 ∷ 0x60 ∷ [])

-- the bytes of the section: 16 of code, and the entries
abbrev content : List ℕ
content = replicate 16 144 ++ four 64 ++ four 70 ++ four 90 ++ four 70 ++ four 75 ++ four 92

abbrev file : List ℕ
file = dos_header ++ coff ++ optional ++ section ++ content

abbrev code : Section
code = record { rva = 64; size = 48; file_offset = 272; file_size = 40; characteristics = 0x60000020 }

abbrev program : Program
program = record {
  file = file;
  machine = 0x8664;
  time_stamp = 1;
  image_base = 16;
  image_size = 96;
  sections = code ∷ [];
  directories = record { rva = 0; size = 0 } ∷ record { rva = 0; size = 0 } ∷ record { rva = 0; size = 0 }
      ∷ record { rva = 80; size = 24 } ∷ [];
}

headers_are_read : program_of file ≡ Some program
headers_are_read = refl

entries_are_read : function_entries program
    ≡ record { begin = 64; end = 70; info = 90 } ∷ record { begin = 70; end = 75; info = 92 } ∷ []
entries_are_read = refl

-- the same bytes as entries of a program for ARM64
arm64_entries_are_read : arm64_entries program
    ≡ record { begin = 64; unwind = 70 } ∷ record { begin = 90; unwind = 70 } ∷ record { begin = 75; unwind = 92 } ∷ []
arm64_entries_are_read = refl

-- the last bytes of the section in the file; one byte further no section has bytes
last_bytes : bytes_from program 100 ≡ four 92
last_bytes = refl

behind_the_last_byte : bytes_from program 104 ≡ []
behind_the_last_byte = refl

no_program : program_of (0x4d ∷ 0x5a ∷ []) ≡ None
no_program = refl

code_is_executable : is_executable code ≡ true
code_is_executable = refl
