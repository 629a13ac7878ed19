-- The superblock, with which a file of the format begins.
use Rattle.std.specs.Prelude.{ℕ, ◌==◌, nat_lt, Bool, not, List, [], ◌∷◌, ◌++◌, drop, length, codes}
use Rattle.std.specs.Prelude.{Result, Ok, Err, if◌then◌else◌}
use Rattle.std.specs.List.{list_any}
use Rattle.pdb_msf.specs.declared.container_error.ContainerError.{ContainerError}
use Rattle.pdb_msf.specs.declared.container_error.ContainerError.TheVariants as file
use Rattle.pdb_msf.specs.declared.superblock.Superblock.{Superblock}
use Rattle.pdb_msf.specs.ContainerError.{begins, other_fault}
use Rattle.pdb_msf.specs.NumberLists.{number}

-- the magic of the format: its name, carriage return, line feed, 0x1a, the letters DS, and zeros up to 32 bytes
abbrev pub magic : List ℕ
magic = codes "Microsoft C/C++ MSF 7.00" ++ 13 ∷ 10 ∷ 26 ∷ 68 ∷ 83 ∷ 0 ∷ 0 ∷ 0 ∷ []

-- whether a file begins with the magic
unfoldable pub is_msf : List ℕ → Bool
is_msf bytes = begins bytes magic

-- whether blocks may have this size: a power of two from 512 to 32768 bytes
unfoldable pub is_block_size : ℕ → Bool
is_block_size size =
    list_any (λ lawful. size == lawful) (512 ∷ 1024 ∷ 2048 ∷ 4096 ∷ 8192 ∷ 16384 ∷ 32768 ∷ [])

-- the fields that are read: the block size at 32, after the magic, and the size of the directory at 44
abbrev pub fields : List ℕ → Superblock
fields bytes = record { block_size = number (drop 32 bytes); directory_size = number (drop 44 bytes) }

-- the superblock of a file; it needs the magic, all 56 bytes, and a valid block size
unfoldable pub superblock : List ℕ → Result Superblock ContainerError
superblock bytes =
    if not (is_msf bytes) then Err (other_fault bytes) else
    if nat_lt (length bytes) 56 then Err file.CutShort else
    if not (is_block_size (number (drop 32 bytes))) then Err file.NotAPdbFile else
    Ok (fields bytes)
