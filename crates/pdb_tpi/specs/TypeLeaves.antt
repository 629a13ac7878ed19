-- Types: the fields of each kind that is read. Offsets count from after the kind.
use Rattle.std.specs.Prelude.{ℕ, ◌+◌, ◌/◌, ◌%◌, ◌^◌, ◌==◌, nat_lt, bit_and, not, Bool, List, [], drop, length}
use Rattle.std.specs.Prelude.{codes, false, slice_index, Option, Some, None, Result, Ok, Err, if◌then◌else◌}
use Rattle.std.specs.Option.{option_and_then, option_map_or}
use Rattle.pdb_records.specs.declared.error.Error.{Error}
use Rattle.pdb_records.specs.declared.error.StreamError.{StreamError}
use Rattle.pdb_records.specs.declared.types.ClassKind.TheVariants as word
use Rattle.pdb_records.specs.declared.types.ItemInformation.{ItemInformation}
use Rattle.pdb_records.specs.declared.types.PointerMode.{PointerMode}
use Rattle.pdb_records.specs.declared.types.PointerMode.TheVariants as mode
use Rattle.pdb_records.specs.declared.types.TypeData.{TypeData}
use Rattle.pdb_records.specs.declared.types.TypeData.TheVariants as type
use Rattle.pdb_records.specs.declared.types.TypeIndex.{TypeIndex}
use Rattle.pdb_msf.specs.declared.faults.TheConstants.{BAD_NUMBER, CUT}
use Rattle.pdb_msf.specs.Faults.{◌>>=◌}
use Rattle.pdb_msf.specs.NumberLists.{number, two_byte_number}
use Rattle.pdb_tpi.specs.declared.type_leaves.TypeKind.{TypeKind}
use Rattle.pdb_tpi.specs.declared.type_leaves.TypeKind.TheVariants as leaf
use Rattle.pdb_tpi.specs.AggregateLeaves.{alias, class, enumerate, enumeration, is_forward_reference, class2, newer_union}
use Rattle.pdb_tpi.specs.AggregateLeaves.{union}
use Rattle.pdb_tpi.specs.Contents.{content_by}
use Rattle.pdb_tpi.specs.IndexLists.{index_list}
use Rattle.pdb_tpi.specs.ItemStreams.{ItemMeaning, stream_items}
use Rattle.pdb_tpi.specs.Leaves.{cv_ptr_64, cv_ptr_mode_lvref, cv_ptr_mode_pmem, cv_ptr_mode_pmfunc, cv_ptr_mode_ptr}
use Rattle.pdb_tpi.specs.Leaves.{cv_ptr_mode_rvref, cv_ptr_near32, lf_arglist, lf_array, lf_bitfield, lf_class}
use Rattle.pdb_tpi.specs.Leaves.{lf_class2, lf_enum, lf_enumerate, lf_fieldlist, lf_interface, lf_interface2}
use Rattle.pdb_tpi.specs.Leaves.{lf_methodlist, lf_mfunction, lf_modifier, lf_pointer, lf_procedure, lf_structure}
use Rattle.pdb_tpi.specs.Leaves.{lf_alias, lf_dimarray, lf_structure2, lf_union, lf_union2, lf_vftable, lf_vtshape}
use Rattle.pdb_tpi.specs.NumericLeaves.{size_in}
use Rattle.pdb_tpi.specs.Primitives.{primitives}

-- the kind of a type that has a name in the records, by its leaf
abbrev pub type_kind : ℕ → Option TypeKind
type_kind number =
    if number == lf_modifier then Some leaf.Modifier else
    if number == lf_pointer then Some leaf.Pointer else
    if number == lf_procedure then Some leaf.Procedure else
    if number == lf_mfunction then Some leaf.MemberFunction else
    if number == lf_arglist then Some leaf.ArgumentList else
    if number == lf_enumerate then Some leaf.Enumerate else
    if number == lf_array then Some leaf.Array else
    if number == lf_class then Some (leaf.Class word.Class) else
    if number == lf_structure then Some (leaf.Class word.Struct) else
    if number == lf_interface then Some (leaf.Class word.Interface) else
    if number == lf_union then Some leaf.Union else
    if number == lf_enum then Some leaf.Enumeration else
    if number == lf_class2 then Some (leaf.NewerClass word.Class) else
    if number == lf_structure2 then Some (leaf.NewerClass word.Struct) else
    if number == lf_interface2 then Some (leaf.NewerClass word.Interface) else
    if number == lf_union2 then Some leaf.NewerUnion else
    if number == lf_fieldlist then Some leaf.FieldList else
    if number == lf_bitfield then Some leaf.Bitfield else
    if number == lf_methodlist then Some leaf.MethodList else
    if number == lf_vftable then Some leaf.VirtualFunctionTable else
    if number == lf_vtshape then Some leaf.VirtualFunctionTableShape else
    if number == lf_alias then Some leaf.Alias else
    if number == lf_dimarray then Some leaf.DimensionedArray else
    None

-- the offset of the properties of a class or a union, in both layouts; other kinds have none
abbrev pub properties_place : TypeKind → Option ℕ
properties_place (leaf.Class kind) = Some 2
properties_place leaf.Union = Some 2
properties_place (leaf.NewerClass kind) = Some 0
properties_place leaf.NewerUnion = Some 0
properties_place _ = None

-- whether the content has properties at this offset, without the flag of a forward reference
abbrev pub defines : List ℕ → ℕ → Bool
defines content place =
    if nat_lt (length content) (place + 2) then false else
    not (is_forward_reference (two_byte_number (drop place content)))

-- whether a record defines a class or a union: it is of such a kind, and no forward reference
abbrev pub is_definition : ℕ → List ℕ → Bool
is_definition kind content =
    option_map_or (defines content) (option_and_then properties_place (type_kind kind)) false

-- the index of a type at this offset
abbrev pub type_index : ℕ → List ℕ → TypeIndex
type_index place bytes = record { 0 = number (drop place bytes) }

-- an index that names a type: 0 names none
abbrev pub optional_type : ℕ → Option TypeIndex
optional_type index = if index == 0 then None else Some (record { 0 = index })

-- LF_MODIFIER (lfModifier): type at 0, and MOD_const, the lowest bit of attr, which has two bytes at 4
unfoldable pub modifier : List ℕ → Result TypeData StreamError
modifier bytes =
    if nat_lt (length bytes) 6 then Err CUT else
    Ok (type.Modifier (record {
      underlying_type = type_index 0 bytes;
      constant = not (bit_and (two_byte_number (drop 4 bytes)) 1 == 0);
    }))

-- ptrmode, three bits of the attributes from bit 5 on: a pointer, a reference, a pointer to a member or to a member
-- function, or a reference to a temporary
abbrev pub pointer_mode : ℕ → Result PointerMode StreamError
pointer_mode attributes =
    let ptrmode = attributes / 2 ^ 5 % 8 in
    if ptrmode == cv_ptr_mode_ptr then Ok mode.Pointer else
    if ptrmode == cv_ptr_mode_lvref then Ok mode.LValueReference else
    if ptrmode == cv_ptr_mode_pmem then Ok mode.Member else
    if ptrmode == cv_ptr_mode_pmfunc then Ok mode.MemberFunction else
    if ptrmode == cv_ptr_mode_rvref then Ok mode.RValueReference else
    Err BAD_NUMBER

-- the size of a pointer without one of its own, by ptrtype, the lowest five bits of the attributes: 8 for CV_PTR_64,
-- and 4 for CV_PTR_NEAR32
abbrev pub near_size : ℕ → ℕ
near_size ptrtype = if ptrtype == cv_ptr_64 then 8 else if ptrtype == cv_ptr_near32 then 4 else 0

-- size, six bits of the attributes from bit 13 on; 0 means the size by ptrtype
abbrev pub pointer_size : ℕ → ℕ
pointer_size attributes =
    let size = attributes / 2 ^ 13 % 64 in if size == 0 then near_size (attributes % 32) else size

-- LF_POINTER (lfPointer): utype at 0, and attr in four bytes at 4, whose bit 10 is isconst
unfoldable pub pointer : List ℕ → Result TypeData StreamError
pointer bytes =
    if nat_lt (length bytes) 8 then Err CUT else
    (let attributes = number (drop 4 bytes) in
    pointer_mode attributes >>= λ ptrmode. Ok (type.Pointer (record {
      underlying_type = type_index 0 bytes;
      mode = ptrmode;
      is_const = not (bit_and attributes 0x400 == 0);
      size = pointer_size attributes;
    })))

-- whether funcattr, at this offset, has ctor: its second bit
abbrev pub is_constructor : ℕ → List ℕ → Bool
is_constructor place bytes = not (bit_and (slice_index bytes place) 2 == 0)

-- LF_PROCEDURE (lfProc): rvtype at 0, funcattr at 5, and arglist at 8
unfoldable pub procedure : List ℕ → Result TypeData StreamError
procedure bytes =
    if nat_lt (length bytes) 12 then Err CUT else
    Ok (type.Procedure (record {
      return_type = optional_type (number bytes);
      is_constructor = is_constructor 5 bytes;
      argument_list = type_index 8 bytes;
    }))

-- LF_MFUNCTION (lfMFunc): rvtype at 0, classtype at 4, thistype at 8, funcattr at 13, and arglist at 16
unfoldable pub member_function : List ℕ → Result TypeData StreamError
member_function bytes =
    if nat_lt (length bytes) 20 then Err CUT else
    Ok (type.MemberFunction (record {
      return_type = type_index 0 bytes;
      class_type = type_index 4 bytes;
      this_pointer_type = optional_type (number (drop 8 bytes));
      is_constructor = is_constructor 13 bytes;
      argument_list = type_index 16 bytes;
    }))

-- LF_ARGLIST (lfArgList): count, and `count` indices, arg
unfoldable pub argument_list : List ℕ → Result TypeData StreamError
argument_list bytes = index_list bytes >>= λ arguments. Ok (type.ArgumentList arguments)

-- the size of an array; an error if it doesn't fit in four bytes
abbrev pub array_size : ℕ → Result ℕ StreamError
array_size size = if nat_lt size (2 ^ 32) then Ok size else Err BAD_NUMBER

-- LF_ARRAY (lfArray): elemtype at 0, and at 8 its size as a numeric leaf
unfoldable pub array : List ℕ → Result TypeData StreamError
array bytes =
    if nat_lt (length bytes) 8 then Err CUT else (do
      size ← size_in (drop 8 bytes)
      first ← array_size size.0
      Ok (type.Array (record { element_type = type_index 0 bytes; first = first; rest = [] })))

-- LF_DIMARRAY (lfDimArray): utype at 0, the type of an element. The number of elements is in the record of diminfo, at
-- 4, which isn't read; so the array has no size
unfoldable pub dimensioned_array : List ℕ → Result TypeData StreamError
dimensioned_array bytes =
    if nat_lt (length bytes) 8 then Err CUT else
    Ok (type.Array (record { element_type = type_index 0 bytes; first = 0; rest = [] }))

-- the content of a record whose kind has a name; for five kinds it is empty
abbrev pub data_of : TypeKind → List ℕ → Result TypeData StreamError
data_of leaf.Modifier bytes = modifier bytes
data_of leaf.Pointer bytes = pointer bytes
data_of leaf.Procedure bytes = procedure bytes
data_of leaf.MemberFunction bytes = member_function bytes
data_of leaf.ArgumentList bytes = argument_list bytes
data_of leaf.Enumerate bytes = enumerate bytes
data_of leaf.Array bytes = array bytes
data_of (leaf.Class class_kind) bytes = class class_kind bytes
data_of leaf.Union bytes = union bytes
data_of leaf.Enumeration bytes = enumeration bytes
data_of (leaf.NewerClass class_kind) bytes = class2 class_kind bytes
data_of leaf.NewerUnion bytes = newer_union bytes
data_of leaf.FieldList bytes = Ok (type.Other (codes "FieldList"))
data_of leaf.Bitfield bytes = Ok (type.Other (codes "Bitfield"))
data_of leaf.MethodList bytes = Ok (type.Other (codes "MethodList"))
data_of leaf.VirtualFunctionTable bytes = Ok (type.Other (codes "VirtualFunctionTable"))
data_of leaf.VirtualFunctionTableShape bytes = Ok (type.Other (codes "VirtualFunctionTableShape"))
data_of leaf.Alias bytes = alias bytes
data_of leaf.DimensionedArray bytes = dimensioned_array bytes

-- the content of a type record, by its kind and the bytes after it
unfoldable pub type_data : ℕ → List ℕ → Result TypeData Error
type_data = content_by type_kind data_of

-- how records are read as types
abbrev pub types : ItemMeaning TypeIndex TypeData
types = record { index = λ number. record { 0 = number }; content = type_data; first = primitives }

-- the types of a stream, after the primitives
abbrev pub types_of : List ℕ → Result (ItemInformation TypeIndex TypeData) StreamError
types_of = stream_items types
