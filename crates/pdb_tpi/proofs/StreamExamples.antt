-- Worked examples of streams of types and of ids: bytes written by hand, and what they mean.
use Rattle.std.proofs.Common.{◌≡◌, ℕ, List, [], ◌∷◌, ◌++◌, length, take, refl}
use Rattle.std.specs.Prelude.{Some, None, Ok, Err, true, false, codes, slice_get}
use Rattle.pdb_records.specs.declared.error.Error.TheVariants.{Stream, UnimplementedTypeKind}
use Rattle.pdb_records.specs.declared.ids.IdData.TheVariants as id
use Rattle.pdb_records.specs.declared.types.Item.{Item}
use Rattle.pdb_records.specs.declared.types.PrimitiveKind.TheVariants as kind
use Rattle.pdb_records.specs.declared.types.TypeData.{TypeData}
use Rattle.pdb_records.specs.declared.types.TypeData.TheVariants as type
use Rattle.pdb_records.specs.declared.types.TypeIndex.{TypeIndex}
use Rattle.pdb_msf.specs.declared.faults.TheConstants.{BAD_LENGTH, CUT, POINTS_NOWHERE, UNKNOWN_VERSION}
use Rattle.pdb_tpi.specs.TypeStreamHeader.{type_header}
use Rattle.pdb_tpi.specs.IdLeaves.{function, id_data, ids_of, member_function, no_ids, string, string_list}
use Rattle.pdb_tpi.specs.IndexLists.{index_list}
use Rattle.pdb_tpi.specs.Primitives.{primitive_kinds, primitives}
use Rattle.pdb_msf.specs.ItemLists.{all_items}
use Rattle.pdb_tpi.specs.ItemStreams.{TypeList, item_at}
use Rattle.pdb_tpi.specs.TypeLeaves.{argument_list, modifier, type_data, types, types_of}

-- a number below 256, as two bytes and as four
abbrev short : ℕ → List ℕ
short number = number ∷ 0 ∷ []

abbrev small : ℕ → List ℕ
small number = number ∷ 0 ∷ 0 ∷ 0 ∷ []

-- the index of a record, of those that begin at 0x1000
abbrev recorded : ℕ → List ℕ
recorded position = position ∷ 16 ∷ 0 ∷ 0 ∷ []

abbrev index : ℕ → TypeIndex
index number = record { 0 = number }

-- the header after Version: HeaderSize, TypeIndexBegin, TypeIndexEnd, TypeRecordBytes, HashStreamIndex,
-- HashAuxStreamIndex, HashKeySize, NumHashBuckets, and the places of three buffers with their lengths
abbrev behind_version : ℕ → ℕ → List ℕ
behind_version count size =
    small 56 ++ recorded 0 ++ recorded count ++ small size ++ 255 ∷ 255 ∷ 255 ∷ 255 ∷ [] ++ small 4
    ++ 255 ∷ 255 ∷ 3 ∷ 0 ∷ [] ++ small 0 ++ small 0 ++ small 0 ++ small 0 ++ small 0 ++ small 0

-- the version V80, which is 20040203, and V70, 19990903
abbrev header : ℕ → ℕ → List ℕ
header count size = 11 ∷ 202 ∷ 49 ∷ 1 ∷ [] ++ behind_version count size

abbrev older_header : ℕ → ℕ → List ℕ
older_header count size = 119 ∷ 9 ∷ 49 ∷ 1 ∷ [] ++ behind_version count size

-- LF_MODIFIER with a constant T_CHAR, LF_ARGLIST with its index, and LF_VTSHAPE
abbrev type_bytes : List ℕ
type_bytes =
    10 ∷ 0 ∷ 1 ∷ 16 ∷ [] ++ small 16 ++ short 1 ++ 242 ∷ 241 ∷ []
    ++ 10 ∷ 0 ∷ 1 ∷ 18 ∷ [] ++ small 1 ++ recorded 0
    ++ 6 ∷ 0 ∷ 10 ∷ 0 ∷ [] ++ short 1 ++ 5 ∷ 241 ∷ []

-- the three types of these records
abbrev three_types : List (Item TypeIndex TypeData)
three_types =
    record {
      index = index 0x1000;
      content = Ok (type.Modifier (record { underlying_type = index 0x10; constant = true }));
    }
    ∷ record { index = index 0x1001; content = Ok (type.ArgumentList (index 0x1000 ∷ [])) }
    ∷ record { index = index 0x1002; content = Ok (type.Other (codes "VirtualFunctionTableShape")) } ∷ []

-- after the primitives stand the three types
stream_means : types_of (header 3 32 ++ type_bytes)
    ≡ Ok (record { items = record { items = primitives ++ three_types; fault = None } })
unfolding type_header all_items type_data modifier argument_list index_list
stream_means = refl

-- the stream ends within the last of these records, which is cut
stream_cut : types_of (header 3 32 ++ take 30 type_bytes)
    ≡ Ok (record { items = record { items = primitives ++ take 2 three_types; fault = Some CUT } })
unfolding type_header all_items type_data modifier argument_list index_list
stream_cut = refl

-- TypeRecordBytes ends after the second one, and the stream before that is said to end
records_cut : types_of (header 3 40 ++ take 24 type_bytes)
    ≡ Ok (record { items = record { items = primitives ++ take 2 three_types; fault = Some CUT } })
unfolding type_header all_items type_data modifier argument_list index_list
records_cut = refl

-- what stands after TypeRecordBytes is no record
records_end : types_of (header 2 24 ++ type_bytes)
    ≡ Ok (record { items = record { items = primitives ++ take 2 three_types; fault = None } })
unfolding type_header all_items type_data modifier argument_list index_list
records_end = refl

-- a record that has no room for its kind
no_kind : types_of (header 1 3 ++ 1 ∷ 0 ∷ 5 ∷ [])
    ≡ Ok (record { items = record { items = primitives ++ []; fault = Some BAD_LENGTH } })
unfolding type_header all_items
no_kind = refl

-- a stream of an older version, one that ends in its header, and one whose records begin after its end
older_version : types_of (older_header 3 32 ++ type_bytes) ≡ Err UNKNOWN_VERSION
unfolding type_header
older_version = refl

header_cut : types_of (take 19 (header 3 32)) ≡ Err CUT
unfolding type_header
header_cut = refl

header_too_large : types_of (take 55 (header 3 32)) ≡ Err POINTS_NOWHERE
unfolding type_header
header_too_large = refl

-- the type at a position, of records that are numbered up to the greatest index
abbrev last_types : TypeList
last_types = record {
  first = 4294967295;
  records = record { kind = 0x1001; content = small 16 ++ short 1 }
      ∷ record { kind = 0x1203; content = [] } ∷ [];
  fault = None;
}

second_type : item_at types last_types 1
    ≡ Some (record { index = index 4294967295; content = Ok (type.Other (codes "FieldList")) })
unfolding type_data
second_type = refl

no_third_type : item_at types last_types 2 ≡ None
no_third_type = refl

-- there are 43 primitives in each of eight modes; T_64PINT4 is the number 0x74 in the mode CV_TM_NPTR64, which is 6
all_primitives : length primitives ≡ 344
unfolding primitives primitive_kinds
all_primitives = refl

first_primitive : slice_get primitives 0 ≡ Some (record {
  index = index 0;
  content = Ok (type.Primitive (record { kind = kind.NoType; indirection = false }));
})
unfolding primitives primitive_kinds
first_primitive = refl

pointer_to_number : slice_get primitives 292 ≡ Some (record {
  index = index 0x674;
  content = Ok (type.Primitive (record { kind = kind.I32; indirection = true }));
})
unfolding primitives primitive_kinds
pointer_to_number = refl

-- T_PVOID, T_VOID in the mode CV_TM_NPTR (1), is std::nullptr_t, and T_32PVOID is a pointer
null_pointer : slice_get primitives 44 ≡ Some (record {
  index = index 0x103;
  content = Ok (type.Enumeration (record { name = codes "std::nullptr_t"; underlying_type = index 0x603 }));
})
unfolding primitives primitive_kinds
null_pointer = refl

pointer_to_nothing : slice_get primitives 173 ≡ Some (record {
  index = index 0x403;
  content = Ok (type.Primitive (record { kind = kind.Void; indirection = true }));
})
unfolding primitives primitive_kinds
pointer_to_nothing = refl

-- LF_FUNC_ID: scopeId, which names a scope or is 0, type and name
function_means : id_data 0x1601 (recorded 2 ++ recorded 7 ++ codes "f" ++ 0 ∷ []) ≡ Ok (id.Function (record {
  scope = Some (record { 0 = 0x1002 });
  function_type = index 0x1007;
  name = codes "f";
}))
unfolding id_data function
function_means = refl

function_of_no_scope : id_data 0x1601 (small 0 ++ recorded 7 ++ codes "f" ++ 0 ∷ []) ≡ Ok (id.Function (record {
  scope = None;
  function_type = index 0x1007;
  name = codes "f";
}))
unfolding id_data function
function_of_no_scope = refl

-- LF_MFUNC_ID: parentType, type and name
method_means : id_data 0x1602 (recorded 6 ++ recorded 7 ++ codes "m" ++ 0 ∷ []) ≡ Ok (id.MemberFunction (record {
  parent = index 0x1006;
  function_type = index 0x1007;
  name = codes "m";
}))
unfolding id_data member_function
method_means = refl

-- LF_SUBSTR_LIST: two strings
strings_mean : id_data 0x1604 (small 2 ++ recorded 0 ++ recorded 1)
    ≡ Ok (id.StringList (index 0x1000 ∷ index 0x1001 ∷ []))
unfolding id_data string_list index_list all_items
strings_mean = refl

-- LF_STRING_ID: id and name, and one whose name has no zero after it
string_means : id_data 0x1605 (small 0 ++ codes "ns" ++ 0 ∷ []) ≡ Ok (id.String (record { name = codes "ns" }))
unfolding id_data string
string_means = refl

string_cut : id_data 0x1605 (small 0 ++ codes "ns") ≡ Err (Stream CUT)
unfolding id_data string
string_cut = refl

-- LF_BUILDINFO, LF_UDT_SRC_LINE and LF_UDT_MOD_SRC_LINE, of which nothing more is read, and LF_MODIFIER, which is no id
build_info_means : id_data 0x1603 (short 1 ++ recorded 0) ≡ Ok (id.Other (codes "BuildInfo"))
unfolding id_data
build_info_means = refl

source_line_means : id_data 0x1606 (recorded 0 ++ recorded 1 ++ small 7)
    ≡ Ok (id.Other (codes "UserDefinedTypeSource"))
unfolding id_data
source_line_means = refl

module_source_line_means : id_data 0x1607 (recorded 0 ++ recorded 1 ++ small 7 ++ short 1)
    ≡ Ok (id.Other (codes "UserDefinedTypeSource"))
unfolding id_data
module_source_line_means = refl

type_is_no_id : id_data 0x1001 (small 16 ++ short 1) ≡ Err (UnimplementedTypeKind 0x1001)
unfolding id_data
type_is_no_id = refl

-- a stream with one id, and one without bytes
one_id : ids_of (header 1 12 ++ 10 ∷ 0 ∷ 5 ∷ 22 ∷ [] ++ small 0 ++ codes "ns" ++ 0 ∷ 241 ∷ [])
    ≡ Ok (record {
      items = record {
        items = record { index = record { 0 = 0x1000 }; content = Ok (id.String (record { name = codes "ns" })) } ∷ [];
        fault = None;
      };
    })
unfolding type_header all_items id_data string
one_id = refl

no_bytes : ids_of [] ≡ Ok no_ids
no_bytes = refl
