-- The sizes of types in bytes.
use Rattle.std.specs.Prelude.{ℕ, List, [], ◌∷◌, Option, Some, None, if◌then◌else◌}
use Rattle.pdb_records.specs.declared.types.PrimitiveKind.{PrimitiveKind}
use Rattle.pdb_records.specs.declared.types.PrimitiveKind.TheVariants.{NoType, Void, Char, UChar, RChar, WChar}
use Rattle.pdb_records.specs.declared.types.PrimitiveKind.TheVariants.{RChar16, RChar32, Char8, I8, U8, Short}
use Rattle.pdb_records.specs.declared.types.PrimitiveKind.TheVariants.{UShort, I16, U16, Long, ULong, I32, U32}
use Rattle.pdb_records.specs.declared.types.PrimitiveKind.TheVariants.{Quad, UQuad, I64, U64, Octa, UOcta, I128}
use Rattle.pdb_records.specs.declared.types.PrimitiveKind.TheVariants.{U128, F16, F32, F32PP, F48, F64, F80, F128}
use Rattle.pdb_records.specs.declared.types.PrimitiveKind.TheVariants.{Complex32, Complex64, Complex80, Complex128}
use Rattle.pdb_records.specs.declared.types.PrimitiveKind.TheVariants.{Bool8, Bool16, Bool32, Bool64, HRESULT}
use Rattle.pdb_records.specs.declared.types.Variant.{Variant}
use Rattle.pdb_records.specs.declared.types.Variant.TheVariants as value
use Rattle.pdb_records.specs.declared.types.TypeIndex.{TypeIndex}
use Rattle.pdb_records.specs.declared.types.TypeData.{TypeData}
use Rattle.pdb_records.specs.declared.types.TypeData.TheVariants.{Primitive, Class, MemberFunction, Procedure}
use Rattle.pdb_records.specs.declared.types.TypeData.TheVariants.{Pointer, Array, Union, Enumeration}
use Rattle.pdb_records.specs.declared.types.TypeData.TheVariants.{Enumerate, Modifier, ArgumentList, Other}
use Rattle.pdb_records.specs.declared.debug_information.MachineType.{MachineType}
use Rattle.pdb_records.specs.declared.debug_information.MachineType.TheVariants as machine

-- the size of a pointer on a machine, in bytes
abbrev pub pointer_size : MachineType → ℕ
pointer_size machine.Amd64 = 8
pointer_size machine.Arm64 = 8
pointer_size machine.Ia64 = 8
pointer_size machine.RiscV64 = 8
pointer_size machine.RiscV128 = 16
pointer_size machine.Other = 4

-- the size of a primitive type, in bytes
abbrev pub primitive_size : PrimitiveKind → ℕ
primitive_size NoType = 0
primitive_size Void = 0
primitive_size Char = 1
primitive_size UChar = 1
primitive_size RChar = 1
primitive_size WChar = 2
primitive_size RChar16 = 2
primitive_size RChar32 = 4
primitive_size Char8 = 1
primitive_size I8 = 1
primitive_size U8 = 1
primitive_size Short = 2
primitive_size UShort = 2
primitive_size I16 = 2
primitive_size U16 = 2
primitive_size Long = 4
primitive_size ULong = 4
primitive_size I32 = 4
primitive_size U32 = 4
primitive_size Quad = 8
primitive_size UQuad = 8
primitive_size I64 = 8
primitive_size U64 = 8
primitive_size Octa = 16
primitive_size UOcta = 16
primitive_size I128 = 16
primitive_size U128 = 16
primitive_size F16 = 2
primitive_size F32 = 4
primitive_size F32PP = 4
primitive_size F48 = 6
primitive_size F64 = 8
primitive_size F80 = 10
primitive_size F128 = 16
primitive_size Complex32 = 8
primitive_size Complex64 = 16
primitive_size Complex80 = 20
primitive_size Complex128 = 32
primitive_size Bool8 = 1
primitive_size Bool16 = 2
primitive_size Bool32 = 4
primitive_size Bool64 = 8
primitive_size HRESULT = 4

-- the size of a named value of an enumeration, in bytes: as wide as its number was declared
abbrev pub variant_size : Variant → ℕ
variant_size (value.U8 n) = 1
variant_size (value.U16 n) = 2
variant_size (value.U32 n) = 4
variant_size (value.U64 n) = 8
variant_size (value.I8 n) = 1
variant_size (value.I16 n) = 2
variant_size (value.I32 n) = 4
variant_size (value.I64 n) = 8

-- the last of one or more
abbrev pub last_of : ℕ → List ℕ → ℕ
last_of first [] = first
last_of first (next ∷ rest) = last_of next rest

-- the type underneath, whose size a type has: an enumeration and a modifier have one
abbrev pub underneath : TypeData → Option TypeIndex
underneath (Enumeration e) = Some e.underlying_type
underneath (Modifier m) = Some m.underlying_type
underneath other = None

-- the size that a type has in itself, by the size of a pointer
abbrev pub own_size : ℕ → TypeData → ℕ
own_size pointer (Primitive p) = if p.indirection then pointer else primitive_size p.kind
own_size pointer (Class c) = c.size
own_size pointer (Union u) = u.size
own_size pointer (MemberFunction m) = pointer
own_size pointer (Procedure p) = pointer
own_size pointer (Pointer p) = p.size
own_size pointer (Array a) = last_of a.first a.rest
own_size pointer (Enumerate e) = variant_size e.value
own_size pointer (Enumeration e) = 0
own_size pointer (Modifier m) = 0
own_size pointer (ArgumentList l) = 0
own_size pointer (Other t) = 0
