-- Primitives: the built-in types, which have no record, and pointers to them.
use Rattle.std.specs.Prelude.{ℕ, ◌+◌, ◌*◌, ◌==◌, nat_lt, List, [], ◌∷◌, codes, map, Ok, if◌then◌else◌}
use Rattle.std.specs.List.{flat_map, range_with_len}
use Rattle.pdb_records.specs.declared.types.Item.{Item}
use Rattle.pdb_records.specs.declared.types.PrimitiveKind.{PrimitiveKind}
use Rattle.pdb_records.specs.declared.types.PrimitiveKind.TheVariants as kind
use Rattle.pdb_records.specs.declared.types.TypeData.{TypeData}
use Rattle.pdb_records.specs.declared.types.TypeData.TheVariants.{Enumeration, Primitive}
use Rattle.pdb_records.specs.declared.types.TypeIndex.{TypeIndex}

-- the primitives by the lowest byte of their indices: T_NOTYPE (0), T_VOID (3), T_HRESULT (8), T_CHAR (0x10) and so on;
-- of two alike, T_LONG (0x12) is the type long, and T_INT4 (0x74) the type int
unfoldable pub primitive_kinds : List (ℕ × PrimitiveKind)
primitive_kinds =
    (0x00, kind.NoType) ∷ (0x03, kind.Void) ∷ (0x08, kind.HRESULT) ∷ (0x10, kind.Char) ∷ (0x11, kind.Short) ∷
    (0x12, kind.Long) ∷ (0x13, kind.Quad) ∷ (0x14, kind.Octa) ∷ (0x20, kind.UChar) ∷ (0x21, kind.UShort) ∷
    (0x22, kind.ULong) ∷ (0x23, kind.UQuad) ∷ (0x24, kind.UOcta) ∷ (0x30, kind.Bool8) ∷ (0x31, kind.Bool16) ∷
    (0x32, kind.Bool32) ∷ (0x33, kind.Bool64) ∷ (0x40, kind.F32) ∷ (0x41, kind.F64) ∷ (0x42, kind.F80) ∷
    (0x43, kind.F128) ∷ (0x44, kind.F48) ∷ (0x45, kind.F32PP) ∷ (0x46, kind.F16) ∷ (0x50, kind.Complex32) ∷
    (0x51, kind.Complex64) ∷ (0x52, kind.Complex80) ∷ (0x53, kind.Complex128) ∷ (0x68, kind.I8) ∷
    (0x69, kind.U8) ∷ (0x70, kind.RChar) ∷ (0x71, kind.WChar) ∷ (0x72, kind.I16) ∷ (0x73, kind.U16) ∷
    (0x74, kind.I32) ∷ (0x75, kind.U32) ∷ (0x76, kind.I64) ∷ (0x77, kind.U64) ∷ (0x78, kind.I128) ∷
    (0x79, kind.U128) ∷ (0x7a, kind.RChar16) ∷ (0x7b, kind.RChar32) ∷ (0x7c, kind.Char8) ∷ []

-- T_PVOID, void in the mode CV_TM_NPTR, which has no width: compilers write it for std::nullptr_t
abbrev pub t_pvoid : ℕ
t_pvoid = 0x0103

-- T_64PVOID, a pointer to void: any pointer to a primitive has the size of the program's pointers
abbrev pub t_64pvoid : ℕ
t_64pvoid = 0x0603

-- the type std::nullptr_t. The records have no kind for it. Only an enumeration has a name and the size of another
-- type, so it becomes an enumeration with that name and a pointer underneath
abbrev pub null_pointer_type : TypeData
null_pointer_type = Enumeration (record {
  name = codes "std::nullptr_t";
  underlying_type = record { 0 = t_64pvoid };
})

-- the type with an index that means a primitive of this kind, in this mode
abbrev pub type_of_index : ℕ → ℕ → PrimitiveKind → TypeData
type_of_index index mode kind =
    if index == t_pvoid then null_pointer_type else Primitive (record { kind = kind; indirection = nat_lt 0 mode })

-- a primitive in a mode. The second byte of the index is the mode: 0 for the primitive itself (CV_TM_DIRECT), otherwise
-- the kind of pointer to it
abbrev pub primitive : ℕ → ℕ × PrimitiveKind → Item TypeIndex TypeData
primitive mode listed = record {
  index = record { 0 = mode * 256 + listed.0 };
  content = Ok (type_of_index (mode * 256 + listed.0) mode listed.1);
}

-- primitives in one mode
abbrev pub primitives_in : List (ℕ × PrimitiveKind) → ℕ → List (Item TypeIndex TypeData)
primitives_in kinds mode = map (primitive mode) kinds

-- all primitives, in the eight modes from CV_TM_DIRECT to CV_TM_NPTR128, one mode after the other
unfoldable pub primitives : List (Item TypeIndex TypeData)
primitives = flat_map (primitives_in primitive_kinds) (range_with_len 0 8)
