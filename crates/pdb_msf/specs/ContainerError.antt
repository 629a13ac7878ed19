-- Which kind of file a file is that isn't a PDB file of version 7.00.
use Rattle.std.specs.Prelude.{ℕ, nat_eq, Bool, List, codes, if◌then◌else◌}
use Rattle.std.specs.List.{starts_with}
use Rattle.pdb_msf.specs.declared.container_error.ContainerError.{ContainerError}
use Rattle.pdb_msf.specs.declared.container_error.ContainerError.TheVariants as file

-- whether a file begins with these bytes
abbrev pub begins : List ℕ → List ℕ → Bool
begins file bytes = starts_with nat_eq file bytes

-- the fault that names the kind of a file by its first bytes: a program, a portable PDB, a compressed file, a PDB file
-- of version 2.00, or none of these
unfoldable pub other_fault : List ℕ → ContainerError
other_fault bytes =
    if begins bytes (codes "MZ") then file.Program else
    if begins bytes (codes "BSJB") then file.PortablePdb else
    if begins bytes (codes "MSCF") then file.Compressed else
    if begins bytes (codes "SZDD") then file.Compressed else
    if begins bytes (codes "Microsoft C/C++ program database 2.00") then file.OldPdbFile else
    file.NotAPdbFile
