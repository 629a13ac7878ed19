-- Types.
use Rattle.std.specs.Prelude.{ℕ, List, [], ◌∷◌, Result, Ok, Err, if◌then◌else◌, codes}
use Rattle.serde_json.specs.Data.{Data}
use Rattle.pdb_records.specs.Arrays.{Dimensions}
use Rattle.pdb_records.specs.declared.types.PrimitiveKind.{PrimitiveKind}
use Rattle.pdb_records.specs.declared.types.PrimitiveType.{PrimitiveType}
use Rattle.pdb_records.specs.declared.types.ClassKind.{ClassKind}
use Rattle.pdb_records.specs.declared.types.ClassType.{ClassType}
use Rattle.pdb_records.specs.declared.types.MemberFunctionType.{MemberFunctionType}
use Rattle.pdb_records.specs.declared.types.ProcedureType.{ProcedureType}
use Rattle.pdb_records.specs.declared.types.PointerMode.{PointerMode}
use Rattle.pdb_records.specs.declared.types.PointerType.{PointerType}
use Rattle.pdb_records.specs.declared.types.UnionType.{UnionType}
use Rattle.pdb_records.specs.declared.types.EnumerationType.{EnumerationType}
use Rattle.pdb_records.specs.declared.types.EnumerateType.{EnumerateType}
use Rattle.pdb_records.specs.declared.types.Variant.{Variant}
use Rattle.pdb_records.specs.declared.types.ModifierType.{ModifierType}
use Rattle.pdb_records.specs.declared.types.TypeIndex.{TypeIndex}
use Rattle.pdb_records.specs.declared.types.TypeData.{TypeData}
use Rattle.pdb_records.specs.declared.types.PrimitiveKind.TheVariants as primitive
use Rattle.pdb_records.specs.declared.types.ClassKind.TheVariants as class
use Rattle.pdb_records.specs.declared.types.PointerMode.TheVariants as mode
use Rattle.pdb_records.specs.declared.types.Variant.TheVariants as variant
use Rattle.pdb_records.specs.declared.types.TypeData.TheVariants as held
use Rattle.pdb_json_values.specs.RecordFault.{Fault, ◌>>=◌}
use Rattle.pdb_json_values.specs.Values.{object_of, boolean_of, text_of}
use Rattle.pdb_json_values.specs.JsonNumbers.{u8_of, u16_of, u32_of, u64_of, i8_of, i16_of, i32_of, i64_of}
use Rattle.pdb_json_records.specs.NameValues.{name_of, variant_of, unknown_kind, is_name}
use Rattle.pdb_json_records.specs.Members.{member_of, optional_of, list_of}
use Rattle.pdb_json_records.specs.Symbols.{type_index_of}

-- the names of primitive types
abbrev pub primitive_kinds : List (List ℕ × PrimitiveKind)
primitive_kinds =
    (codes "NoType", primitive.NoType)
    ∷ (codes "Void", primitive.Void)
    ∷ (codes "Char", primitive.Char)
    ∷ (codes "UChar", primitive.UChar)
    ∷ (codes "RChar", primitive.RChar)
    ∷ (codes "WChar", primitive.WChar)
    ∷ (codes "RChar16", primitive.RChar16)
    ∷ (codes "RChar32", primitive.RChar32)
    ∷ (codes "Char8", primitive.Char8)
    ∷ (codes "I8", primitive.I8)
    ∷ (codes "U8", primitive.U8)
    ∷ (codes "Short", primitive.Short)
    ∷ (codes "UShort", primitive.UShort)
    ∷ (codes "I16", primitive.I16)
    ∷ (codes "U16", primitive.U16)
    ∷ (codes "Long", primitive.Long)
    ∷ (codes "ULong", primitive.ULong)
    ∷ (codes "I32", primitive.I32)
    ∷ (codes "U32", primitive.U32)
    ∷ (codes "Quad", primitive.Quad)
    ∷ (codes "UQuad", primitive.UQuad)
    ∷ (codes "I64", primitive.I64)
    ∷ (codes "U64", primitive.U64)
    ∷ (codes "Octa", primitive.Octa)
    ∷ (codes "UOcta", primitive.UOcta)
    ∷ (codes "I128", primitive.I128)
    ∷ (codes "U128", primitive.U128)
    ∷ (codes "F16", primitive.F16)
    ∷ (codes "F32", primitive.F32)
    ∷ (codes "F32PP", primitive.F32PP)
    ∷ (codes "F48", primitive.F48)
    ∷ (codes "F64", primitive.F64)
    ∷ (codes "F80", primitive.F80)
    ∷ (codes "F128", primitive.F128)
    ∷ (codes "Complex32", primitive.Complex32)
    ∷ (codes "Complex64", primitive.Complex64)
    ∷ (codes "Complex80", primitive.Complex80)
    ∷ (codes "Complex128", primitive.Complex128)
    ∷ (codes "Bool8", primitive.Bool8)
    ∷ (codes "Bool16", primitive.Bool16)
    ∷ (codes "Bool32", primitive.Bool32)
    ∷ (codes "Bool64", primitive.Bool64)
    ∷ (codes "HRESULT", primitive.HRESULT)
    ∷ []

-- the words that a class is declared with
abbrev pub class_kinds : List (List ℕ × ClassKind)
class_kinds =
    (codes "Class", class.Class)
    ∷ (codes "Interface", class.Interface)
    ∷ (codes "Struct", class.Struct)
    ∷ []

-- the names of pointer modes
abbrev pub pointer_modes : List (List ℕ × PointerMode)
pointer_modes =
    (codes "Pointer", mode.Pointer)
    ∷ (codes "LValueReference", mode.LValueReference)
    ∷ (codes "Member", mode.Member)
    ∷ (codes "MemberFunction", mode.MemberFunction)
    ∷ (codes "RValueReference", mode.RValueReference)
    ∷ []

-- a primitive type, or a pointer to one
unfoldable pub primitive_of : Data → Result PrimitiveType Fault
primitive_of d = do
  kind ← member_of (codes "primitive") (variant_of primitive_kinds) d
  indirection ← member_of (codes "indirection") boolean_of d
  Ok (record { kind = kind; indirection = indirection })

-- a class, a struct or an interface
unfoldable pub class_of : ℕ → Data → Result ClassType Fault
class_of version d = do
  class_kind ← member_of (codes "class_kind") (variant_of class_kinds) d
  name ← member_of (codes "name") (name_of version) d
  unique_name ← member_of (codes "unique_name") (optional_of (name_of version)) d
  size ← member_of (codes "size") u64_of d
  forward_reference ← member_of (codes "forward_reference") boolean_of d
  Ok (record {
    class_kind = class_kind;
    name = name;
    unique_name = unique_name;
    size = size;
    forward_reference = forward_reference;
  })

-- the type of a method
unfoldable pub member_function_of : Data → Result MemberFunctionType Fault
member_function_of d = do
  return_type ← member_of (codes "return_type") type_index_of d
  class_type ← member_of (codes "class_type") type_index_of d
  this_pointer_type ← member_of (codes "this_pointer_type") (optional_of type_index_of) d
  is_constructor ← member_of (codes "is_constructor") boolean_of d
  argument_list ← member_of (codes "argument_list") type_index_of d
  Ok (record {
    return_type = return_type;
    class_type = class_type;
    this_pointer_type = this_pointer_type;
    is_constructor = is_constructor;
    argument_list = argument_list;
  })

-- the type of a function outside classes
unfoldable pub procedure_type_of : Data → Result ProcedureType Fault
procedure_type_of d = do
  return_type ← member_of (codes "return_type") (optional_of type_index_of) d
  is_constructor ← member_of (codes "is_constructor") boolean_of d
  argument_list ← member_of (codes "argument_list") type_index_of d
  Ok (record { return_type = return_type; is_constructor = is_constructor; argument_list = argument_list })

-- a pointer or a reference
unfoldable pub pointer_of : Data → Result PointerType Fault
pointer_of d = do
  underlying_type ← member_of (codes "underlying_type") type_index_of d
  mode ← member_of (codes "mode") (variant_of pointer_modes) d
  is_const ← member_of (codes "is_const") boolean_of d
  size ← member_of (codes "size") u8_of d
  Ok (record { underlying_type = underlying_type; mode = mode; is_const = is_const; size = size })

-- an array
unfoldable pub dimensions_of : Data → Result Dimensions Fault
dimensions_of d = do
  element_type ← member_of (codes "element_type") type_index_of d
  first ← member_of (codes "first") u32_of d
  rest ← member_of (codes "rest") (list_of u32_of) d
  Ok (record { element_type = element_type; first = first; rest = rest })

-- a union
unfoldable pub union_of : ℕ → Data → Result UnionType Fault
union_of version d = do
  name ← member_of (codes "name") (name_of version) d
  unique_name ← member_of (codes "unique_name") (optional_of (name_of version)) d
  size ← member_of (codes "size") u64_of d
  forward_reference ← member_of (codes "forward_reference") boolean_of d
  Ok (record { name = name; unique_name = unique_name; size = size; forward_reference = forward_reference })

-- an enumeration of named values
unfoldable pub enumeration_of : ℕ → Data → Result EnumerationType Fault
enumeration_of version d = do
  name ← member_of (codes "name") (name_of version) d
  underlying_type ← member_of (codes "underlying_type") type_index_of d
  Ok (record { name = name; underlying_type = underlying_type })

-- a number whose width and sign have this name
unfoldable pub number_named : List ℕ → Data → Result Variant Fault
number_named kind d =
    if is_name (codes "U8") kind then (member_of (codes "value") u8_of d >>= λ n. Ok (variant.U8 n))
    else if is_name (codes "U16") kind then (member_of (codes "value") u16_of d >>= λ n. Ok (variant.U16 n))
    else if is_name (codes "U32") kind then (member_of (codes "value") u32_of d >>= λ n. Ok (variant.U32 n))
    else if is_name (codes "U64") kind then (member_of (codes "value") u64_of d >>= λ n. Ok (variant.U64 n))
    else if is_name (codes "I8") kind then (member_of (codes "value") i8_of d >>= λ n. Ok (variant.I8 n))
    else if is_name (codes "I16") kind then (member_of (codes "value") i16_of d >>= λ n. Ok (variant.I16 n))
    else if is_name (codes "I32") kind then (member_of (codes "value") i32_of d >>= λ n. Ok (variant.I32 n))
    else if is_name (codes "I64") kind then (member_of (codes "value") i64_of d >>= λ n. Ok (variant.I64 n))
    else Err unknown_kind

-- a number with the width and sign that it was declared with
unfoldable pub number_of : Data → Result Variant Fault
number_of d = do
  number ← object_of d
  width ← member_of (codes "kind") text_of number
  number_named width number

-- one named value of an enumeration
unfoldable pub enumerate_of : ℕ → Data → Result EnumerateType Fault
enumerate_of version d = do
  name ← member_of (codes "name") (name_of version) d
  value ← member_of (codes "value") number_of d
  Ok (record { name = name; value = value })

-- a modifier: a type with or without `const`
unfoldable pub modifier_of : Data → Result ModifierType Fault
modifier_of d = do
  underlying_type ← member_of (codes "underlying_type") type_index_of d
  constant ← member_of (codes "constant") boolean_of d
  Ok (record { underlying_type = underlying_type; constant = constant })

-- the types of a function's arguments, in order
unfoldable pub arguments_of : Data → Result (List TypeIndex) Fault
arguments_of d = member_of (codes "arguments") (list_of type_index_of) d

-- the name of a kind that is read but not printed
unfoldable pub kind_name_of : Data → Result (List ℕ) Fault
kind_name_of d = member_of (codes "kind_name") text_of d

-- a type whose kind has this name
unfoldable pub type_named : ℕ → List ℕ → Data → Result TypeData Fault
type_named version kind d =
    if is_name (codes "Primitive") kind then (primitive_of d >>= λ said. Ok (held.Primitive said))
    else if is_name (codes "Class") kind then (class_of version d >>= λ said. Ok (held.Class said))
    else if is_name (codes "MemberFunction") kind then (member_function_of d >>= λ said. Ok (held.MemberFunction said))
    else if is_name (codes "Procedure") kind then (procedure_type_of d >>= λ said. Ok (held.Procedure said))
    else if is_name (codes "Pointer") kind then (pointer_of d >>= λ said. Ok (held.Pointer said))
    else if is_name (codes "Array") kind then (dimensions_of d >>= λ said. Ok (held.Array said))
    else if is_name (codes "Union") kind then (union_of version d >>= λ said. Ok (held.Union said))
    else if is_name (codes "Enumeration") kind then (enumeration_of version d >>= λ said. Ok (held.Enumeration said))
    else if is_name (codes "Enumerate") kind then (enumerate_of version d >>= λ said. Ok (held.Enumerate said))
    else if is_name (codes "Modifier") kind then (modifier_of d >>= λ said. Ok (held.Modifier said))
    else if is_name (codes "ArgumentList") kind then (arguments_of d >>= λ said. Ok (held.ArgumentList said))
    else if is_name (codes "Other") kind then (kind_name_of d >>= λ said. Ok (held.Other said))
    else Err unknown_kind

-- a type: its kind, and the members of that kind
unfoldable pub type_of : ℕ → Data → Result TypeData Fault
type_of version d = do
  entry ← object_of d
  kind ← member_of (codes "kind") text_of entry
  type_named version kind entry
