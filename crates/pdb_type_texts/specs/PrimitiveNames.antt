-- The texts of primitive types.
use Rattle.std.specs.Prelude.{ℕ, ◌++◌, Bool, List, [], codes, if◌then◌else◌}
use Rattle.pdb_records.specs.declared.types.PrimitiveKind.{PrimitiveKind}
use Rattle.pdb_records.specs.declared.types.PrimitiveKind.TheVariants.{NoType, Void, Char, UChar, RChar, WChar}
use Rattle.pdb_records.specs.declared.types.PrimitiveKind.TheVariants.{RChar16, RChar32, Char8, I8, U8, Short}
use Rattle.pdb_records.specs.declared.types.PrimitiveKind.TheVariants.{UShort, I16, U16, Long, ULong, I32, U32}
use Rattle.pdb_records.specs.declared.types.PrimitiveKind.TheVariants.{Quad, UQuad, I64, U64, Octa, UOcta, I128}
use Rattle.pdb_records.specs.declared.types.PrimitiveKind.TheVariants.{U128, F16, F32, F32PP, F48, F64, F80, F128}
use Rattle.pdb_records.specs.declared.types.PrimitiveKind.TheVariants.{Complex32, Complex64, Complex80, Complex128}
use Rattle.pdb_records.specs.declared.types.PrimitiveKind.TheVariants.{Bool8, Bool16, Bool32, Bool64, HRESULT}
use Rattle.pdb_records.specs.declared.types.PrimitiveType.{PrimitiveType}
use Rattle.pdb_types.specs.declared.flags.TypeFormatterFlags.{TypeFormatterFlags}
use Rattle.pdb_type_texts.specs.FlagTests.{with_space_before_pointer}

-- the name of a primitive type
abbrev pub primitive_name : PrimitiveKind → List ℕ
primitive_name NoType = codes "<NoType>"
primitive_name Void = codes "void"
primitive_name Char = codes "signed char"
primitive_name UChar = codes "unsigned char"
primitive_name RChar = codes "char"
primitive_name WChar = codes "wchar_t"
primitive_name RChar16 = codes "char16_t"
primitive_name RChar32 = codes "char32_t"
primitive_name Char8 = codes "char8_t"
primitive_name I8 = codes "int8_t"
primitive_name U8 = codes "uint8_t"
primitive_name Short = codes "short"
primitive_name UShort = codes "unsigned short"
primitive_name I16 = codes "int16_t"
primitive_name U16 = codes "uint16_t"
primitive_name Long = codes "long"
primitive_name ULong = codes "unsigned long"
primitive_name I32 = codes "int"
primitive_name U32 = codes "unsigned int"
primitive_name Quad = codes "long long"
primitive_name UQuad = codes "unsigned long long"
primitive_name I64 = codes "int64_t"
primitive_name U64 = codes "uint64_t"
primitive_name Octa = codes "int128_t"
primitive_name UOcta = codes "uint128_t"
primitive_name I128 = codes "int128_t"
primitive_name U128 = codes "uint128_t"
primitive_name F16 = codes "float16_t"
primitive_name F32 = codes "float"
primitive_name F32PP = codes "float"
primitive_name F48 = codes "float48_t"
primitive_name F64 = codes "double"
primitive_name F80 = codes "long double"
primitive_name F128 = codes "long double"
primitive_name Complex32 = codes "complex<float>"
primitive_name Complex64 = codes "complex<double>"
primitive_name Complex80 = codes "complex<long double>"
primitive_name Complex128 = codes "complex<long double>"
primitive_name Bool8 = codes "bool"
primitive_name Bool16 = codes "bool16_t"
primitive_name Bool32 = codes "bool32_t"
primitive_name Bool64 = codes "bool64_t"
primitive_name HRESULT = codes "HRESULT"

-- the text of a pointer to a named type, which is constant or not
abbrev pub pointer_to : TypeFormatterFlags → List ℕ → Bool → List ℕ
pointer_to flags named constant =
    named ++ (if constant then codes " const" else [])
    ++ (if with_space_before_pointer flags then codes " *" else codes "*")

-- the text of a named type, constant or not
abbrev pub constant_or_not : List ℕ → Bool → List ℕ
constant_or_not named constant = (if constant then codes "const " else []) ++ named

-- the text of a primitive type, constant or not; with a pointer to one, the target is constant
abbrev pub primitive_text : TypeFormatterFlags → PrimitiveType → Bool → List ℕ
primitive_text flags p constant =
    if p.indirection then pointer_to flags (primitive_name p.kind) constant
    else constant_or_not (primitive_name p.kind) constant
