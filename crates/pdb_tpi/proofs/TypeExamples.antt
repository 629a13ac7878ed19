-- Worked examples of types: bytes written by hand, and what they mean.
use Rattle.std.proofs.Common.{◌≡◌, ℕ, List, [], ◌∷◌, ◌++◌, take, refl, pos, negsuc}
use Rattle.std.specs.Prelude.{Some, None, Ok, Err, true, false, codes}
use Rattle.pdb_records.specs.declared.error.Error.TheVariants.{Stream, UnimplementedTypeKind}
use Rattle.pdb_records.specs.declared.types.ClassKind.TheVariants as word
use Rattle.pdb_records.specs.declared.types.PointerMode.TheVariants as mode
use Rattle.pdb_records.specs.declared.types.TypeData.TheVariants as type
use Rattle.pdb_records.specs.declared.types.TypeIndex.{TypeIndex}
use Rattle.pdb_records.specs.declared.types.Variant.TheVariants.{I8, I16, I32, I64, U16}
use Rattle.pdb_msf.specs.declared.faults.TheConstants.{BAD_NUMBER, CUT}
use Rattle.pdb_tpi.specs.AggregateLeaves.{alias, class, enumerate, enumeration, class2, newer_union}
use Rattle.pdb_tpi.specs.AggregateLeaves.{sized_names, union}
use Rattle.pdb_msf.specs.ItemLists.{all_items}
use Rattle.pdb_tpi.specs.IndexLists.{index_list}
use Rattle.pdb_tpi.specs.NumericLeaves.{numeric_leaf, size_in}
use Rattle.pdb_tpi.specs.TypeLeaves.{argument_list, array, dimensioned_array, member_function, modifier, pointer, procedure, type_data}

-- a number below 256, as two bytes and as four
abbrev short : ℕ → List ℕ
short number = number ∷ 0 ∷ []

abbrev small : ℕ → List ℕ
small number = number ∷ 0 ∷ 0 ∷ 0 ∷ []

-- the index of a record, of those that begin at 0x1000
abbrev recorded : ℕ → List ℕ
recorded position = position ∷ 16 ∷ 0 ∷ 0 ∷ []

abbrev index : ℕ → TypeIndex
index number = record { 0 = number }

-- LF_MODIFIER: a constant T_CHAR, and two bytes that fill up (LF_PAD2, LF_PAD1)
abbrev constant_char : List ℕ
constant_char = small 16 ++ short 1 ++ 242 ∷ 241 ∷ []

constant_char_means : type_data 0x1001 constant_char
    ≡ Ok (type.Modifier (record { underlying_type = index 0x10; constant = true }))
unfolding type_data modifier
constant_char_means = refl

-- a volatile one (MOD_volatile) isn't constant
volatile_means : type_data 0x1001 (small 16 ++ short 2)
    ≡ Ok (type.Modifier (record { underlying_type = index 0x10; constant = false }))
unfolding type_data modifier
volatile_means = refl

-- LF_POINTER: CV_PTR_64, CV_PTR_MODE_REF, isconst, and the size 8
abbrev constant_reference : List ℕ
constant_reference = recorded 0 ++ 44 ∷ 4 ∷ 1 ∷ 0 ∷ []

constant_reference_means : type_data 0x1002 constant_reference ≡ Ok (type.Pointer (record {
  underlying_type = index 0x1000;
  mode = mode.LValueReference;
  is_const = true;
  size = 8;
}))
unfolding type_data pointer
constant_reference_means = refl

-- CV_PTR_NEAR32 and CV_PTR_MODE_RVREF, which says no size
older_reference_means : type_data 0x1002 (recorded 0 ++ small 138) ≡ Ok (type.Pointer (record {
  underlying_type = index 0x1000;
  mode = mode.RValueReference;
  is_const = false;
  size = 4;
}))
unfolding type_data pointer
older_reference_means = refl

-- a mode that there isn't
no_mode : type_data 0x1002 (recorded 0 ++ small 160) ≡ Err (Stream BAD_NUMBER)
unfolding type_data pointer
no_mode = refl

-- LF_PROCEDURE: rvtype T_INT4, calltype, funcattr, parmcount 2, arglist
abbrev procedure_bytes : List ℕ
procedure_bytes = small 116 ++ 0 ∷ 0 ∷ [] ++ short 2 ++ recorded 3

procedure_means : type_data 0x1008 procedure_bytes ≡ Ok (type.Procedure (record {
  return_type = Some (index 0x74);
  is_constructor = false;
  argument_list = index 0x1003;
}))
unfolding type_data procedure
procedure_means = refl

-- LF_MFUNCTION: rvtype T_VOID, classtype, thistype, calltype, funcattr ctor, parmcount 2, arglist, thisadjust
constructor_means : type_data 0x1009
    (small 3 ++ recorded 6 ++ recorded 1 ++ 11 ∷ 2 ∷ [] ++ short 2 ++ recorded 3 ++ small 0)
    ≡ Ok (type.MemberFunction (record {
      return_type = index 3;
      class_type = index 0x1006;
      this_pointer_type = Some (index 0x1001);
      is_constructor = true;
      argument_list = index 0x1003;
    }))
unfolding type_data member_function
constructor_means = refl

-- a static member function, whose funcattr is that of a class with virtual bases (ctorvbase)
static_function_means : type_data 0x1009
    (small 3 ++ recorded 6 ++ small 0 ++ 0 ∷ 4 ∷ [] ++ short 2 ++ recorded 3 ++ small 0)
    ≡ Ok (type.MemberFunction (record {
      return_type = index 3;
      class_type = index 0x1006;
      this_pointer_type = None;
      is_constructor = false;
      argument_list = index 0x1003;
    }))
unfolding type_data member_function
static_function_means = refl

-- LF_ARGLIST: two arguments, and one that is cut
abbrev arguments : List ℕ
arguments = small 2 ++ recorded 1 ++ small 116

arguments_mean : type_data 0x1201 arguments ≡ Ok (type.ArgumentList (index 0x1001 ∷ index 0x74 ∷ []))
unfolding type_data argument_list index_list all_items
arguments_mean = refl

arguments_cut : type_data 0x1201 (take 11 arguments) ≡ Err (Stream CUT)
unfolding type_data argument_list index_list all_items
arguments_cut = refl

-- LF_ENUMERATE: attr, LF_CHAR with -1, and the name
value_means : type_data 0x1502 (short 3 ++ 0 ∷ 128 ∷ 255 ∷ [] ++ codes "low" ++ 0 ∷ [])
    ≡ Ok (type.Enumerate (record { name = codes "low"; value = I8 (negsuc 0) }))
unfolding type_data enumerate numeric_leaf
value_means = refl

-- LF_ARRAY: elemtype, idxtype, the size 12, and a name without letters
array_means : type_data 0x1503 (small 16 ++ small 35 ++ short 12 ++ 0 ∷ [])
    ≡ Ok (type.Array (record { element_type = index 0x10; first = 12; rest = [] }))
unfolding type_data array size_in numeric_leaf
array_means = refl

-- one whose size has more than four bytes
array_too_large : type_data 0x1503 (small 16 ++ small 35 ++ 10 ∷ 128 ∷ [] ++ small 0 ++ small 1 ++ 0 ∷ [])
    ≡ Err (Stream BAD_NUMBER)
unfolding type_data array size_in numeric_leaf
array_too_large = refl

-- LF_CLASS, LF_STRUCTURE and LF_INTERFACE: count, property, field, derived, vshape, size, name and unique name
abbrev class_bytes : List ℕ → List ℕ → List ℕ
class_bytes property size =
    short 2 ++ property ++ recorded 5 ++ small 0 ++ small 0 ++ size ++ codes "s" ++ 0 ∷ [] ++ codes ".?AUs@@" ++ 0 ∷ []

-- a structure of 65536 bytes by LF_ULONG, with a unique name (hasuniquename)
structure_means : type_data 0x1505 (class_bytes (0 ∷ 2 ∷ []) (4 ∷ 128 ∷ 0 ∷ 0 ∷ 1 ∷ 0 ∷ [])) ≡ Ok (type.Class (record {
  class_kind = word.Struct;
  name = codes "s";
  unique_name = Some (codes ".?AUs@@");
  size = 65536;
  forward_reference = false;
}))
unfolding type_data class sized_names size_in numeric_leaf
structure_means = refl

-- a forward reference to a class (fwdref), with no unique name
forward_reference_means : type_data 0x1504 (class_bytes (short 128) (short 0)) ≡ Ok (type.Class (record {
  class_kind = word.Class;
  name = codes "s";
  unique_name = None;
  size = 0;
  forward_reference = true;
}))
unfolding type_data class sized_names size_in numeric_leaf
forward_reference_means = refl

-- an interface whose size is below zero, by LF_SHORT
negative_size : type_data 0x1519 (class_bytes (short 0) (1 ∷ 128 ∷ 255 ∷ 255 ∷ [])) ≡ Err (Stream BAD_NUMBER)
unfolding type_data class sized_names size_in numeric_leaf
negative_size = refl

-- the newer layout: property in four bytes, field, derived, vshape, a number of two bytes, size, name and unique name
abbrev newer_class_bytes : List ℕ
newer_class_bytes =
    0 ∷ 2 ∷ 0 ∷ 0 ∷ [] ++ recorded 5 ++ small 0 ++ small 0 ++ short 2 ++ short 24 ++ codes "n" ++ 0 ∷ []
    ++ codes ".?AVn@@" ++ 0 ∷ []

newer_class_means : type_data 0x1608 newer_class_bytes ≡ Ok (type.Class (record {
  class_kind = word.Class;
  name = codes "n";
  unique_name = Some (codes ".?AVn@@");
  size = 24;
  forward_reference = false;
}))
unfolding type_data class2 sized_names size_in numeric_leaf
newer_class_means = refl

newer_structure_means : type_data 0x1609 newer_class_bytes ≡ Ok (type.Class (record {
  class_kind = word.Struct;
  name = codes "n";
  unique_name = Some (codes ".?AVn@@");
  size = 24;
  forward_reference = false;
}))
unfolding type_data class2 sized_names size_in numeric_leaf
newer_structure_means = refl

-- an interface whose unique name has no zero after it
newer_interface_cut : type_data 0x160b (take 29 newer_class_bytes) ≡ Err (Stream CUT)
unfolding type_data class2 sized_names size_in numeric_leaf
newer_interface_cut = refl

-- LF_UNION: count, property, field, size and name
union_means : type_data 0x1506 (short 2 ++ short 0 ++ recorded 5 ++ short 8 ++ codes "u" ++ 0 ∷ [])
    ≡ Ok (type.Union (record { name = codes "u"; unique_name = None; size = 8; forward_reference = false }))
unfolding type_data union sized_names size_in numeric_leaf
union_means = refl

newer_union_means : type_data 0x160a (small 128 ++ small 0 ++ short 0 ++ short 0 ++ codes "u" ++ 0 ∷ [])
    ≡ Ok (type.Union (record { name = codes "u"; unique_name = None; size = 0; forward_reference = true }))
unfolding type_data newer_union sized_names size_in numeric_leaf
newer_union_means = refl

-- LF_ENUM: count, property, utype T_INT4, field and name
enumeration_means : type_data 0x1507 (short 2 ++ short 0 ++ small 116 ++ recorded 5 ++ codes "e" ++ 0 ∷ [])
    ≡ Ok (type.Enumeration (record { name = codes "e"; underlying_type = index 0x74 }))
unfolding type_data enumeration
enumeration_means = refl

-- LF_ALIAS: utype T_UINT4 and the name
abbrev alias_bytes : List ℕ
alias_bytes = small 117 ++ codes "COLORREF" ++ 0 ∷ []

alias_means : type_data 0x150a alias_bytes
    ≡ Ok (type.Enumeration (record { name = codes "COLORREF"; underlying_type = index 0x75 }))
unfolding type_data alias
alias_means = refl

alias_cut : type_data 0x150a (take 12 alias_bytes) ≡ Err (Stream CUT)
unfolding type_data alias
alias_cut = refl

-- LF_DIMARRAY: utype T_REAL32, diminfo and the name
abbrev dimensioned_bytes : List ℕ
dimensioned_bytes = small 64 ++ recorded 2 ++ codes "a" ++ 0 ∷ []

dimensioned_means : type_data 0x1508 dimensioned_bytes
    ≡ Ok (type.Array (record { element_type = index 0x40; first = 0; rest = [] }))
unfolding type_data dimensioned_array
dimensioned_means = refl

dimensioned_cut : type_data 0x1508 (take 7 dimensioned_bytes) ≡ Err (Stream CUT)
unfolding type_data dimensioned_array
dimensioned_cut = refl

-- LF_FIELDLIST, LF_BITFIELD, LF_METHODLIST, LF_VFTABLE and LF_VTSHAPE, of which nothing more is read, and LF_OEM
field_list_means : type_data 0x1203 [] ≡ Ok (type.Other (codes "FieldList"))
unfolding type_data
field_list_means = refl

bitfield_means : type_data 0x1205 (small 116 ++ 3 ∷ 0 ∷ []) ≡ Ok (type.Other (codes "Bitfield"))
unfolding type_data
bitfield_means = refl

method_list_means : type_data 0x1206 [] ≡ Ok (type.Other (codes "MethodList"))
unfolding type_data
method_list_means = refl

virtual_function_table_means : type_data 0x151d [] ≡ Ok (type.Other (codes "VirtualFunctionTable"))
unfolding type_data
virtual_function_table_means = refl

table_shape_means : type_data 0x000a (short 1 ++ 5 ∷ []) ≡ Ok (type.Other (codes "VirtualFunctionTableShape"))
unfolding type_data
table_shape_means = refl

not_implemented : type_data 0x100f (small 1) ≡ Err (UnimplementedTypeKind 0x100f)
unfolding type_data
not_implemented = refl

-- the other numeric leaves: a number that stands for itself, LF_SHORT, LF_USHORT, LF_LONG, LF_QUADWORD and LF_UQUADWORD
number_itself : numeric_leaf (255 ∷ 127 ∷ 7 ∷ []) ≡ Ok (U16 32767, 7 ∷ [])
unfolding numeric_leaf
number_itself = refl

short_means : numeric_leaf (1 ∷ 128 ∷ 0 ∷ 128 ∷ []) ≡ Ok (I16 (negsuc 32767), [])
unfolding numeric_leaf
short_means = refl

unsigned_short_means : numeric_leaf (2 ∷ 128 ∷ 0 ∷ 128 ∷ []) ≡ Ok (U16 32768, [])
unfolding numeric_leaf
unsigned_short_means = refl

long_means : numeric_leaf (3 ∷ 128 ∷ 254 ∷ 255 ∷ 255 ∷ 255 ∷ []) ≡ Ok (I32 (negsuc 1), [])
unfolding numeric_leaf
long_means = refl

quadword_means : numeric_leaf (9 ∷ 128 ∷ [] ++ small 5 ++ small 1) ≡ Ok (I64 (pos 4294967301), [])
unfolding numeric_leaf
quadword_means = refl

quadword_cut : numeric_leaf (10 ∷ 128 ∷ [] ++ small 5 ++ 1 ∷ 0 ∷ 0 ∷ []) ≡ Err CUT
unfolding numeric_leaf
quadword_cut = refl

-- LF_REAL32, which is none of a size or a value
real_is_none : numeric_leaf (5 ∷ 128 ∷ [] ++ small 0) ≡ Err BAD_NUMBER
unfolding numeric_leaf
real_is_none = refl
