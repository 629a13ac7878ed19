-- Classes, structures, interfaces, unions and enumerations, in both layouts, and aliases. Offsets count from after the
-- kind.
use Rattle.std.specs.Prelude.{ℕ, ◌==◌, nat_lt, bit_and, not, Bool, List, drop, length, Option, Some, None, Result, Ok}
use Rattle.std.specs.Prelude.{Err, if◌then◌else◌}
use Rattle.pdb_records.specs.declared.error.StreamError.{StreamError}
use Rattle.pdb_records.specs.declared.types.ClassKind.{ClassKind}
use Rattle.pdb_records.specs.declared.types.TypeData.{TypeData}
use Rattle.pdb_records.specs.declared.types.TypeData.TheVariants.{Class, Enumerate, Enumeration, Union}
use Rattle.pdb_msf.specs.declared.faults.TheConstants.{CUT}
use Rattle.pdb_msf.specs.Faults.{◌>>=◌}
use Rattle.pdb_msf.specs.NumberLists.{number, two_byte_number}
use Rattle.pdb_tpi.specs.declared.aggregate_leaves.SizedNames.{SizedNames}
use Rattle.pdb_tpi.specs.TypeNames.{name_in}
use Rattle.pdb_tpi.specs.NumericLeaves.{numeric_leaf, size_in}

-- fwdref of the properties: whether the record is a forward reference, and another record defines the type
abbrev pub is_forward_reference : ℕ → Bool
is_forward_reference property = not (bit_and property 0x80 == 0)

-- hasuniquename of the properties: whether a unique name follows the name
abbrev pub has_unique_name : ℕ → Bool
has_unique_name property = not (bit_and property 0x200 == 0)

-- the unique name at the start of these bytes, if the properties have hasuniquename
abbrev pub unique_name : ℕ → List ℕ → Result (Option (List ℕ)) StreamError
unique_name property bytes =
    if has_unique_name property then (name_in bytes >>= λ unique. Ok (Some unique.0)) else Ok None

-- the end of a class or a union, after its indices: its size as a numeric leaf, its name, and its unique name
unfoldable pub sized_names : ℕ → List ℕ → Result SizedNames StreamError
sized_names property bytes = do
  size ← size_in bytes
  name ← name_in size.1
  unique ← unique_name property name.1
  Ok (record { size = size.0; name = name.0; unique_name = unique })

-- a class by its properties, its size and its names
abbrev pub class_by : ClassKind → ℕ → SizedNames → TypeData
class_by class_kind property named = Class (record {
  class_kind = class_kind;
  name = named.name;
  unique_name = named.unique_name;
  size = named.size;
  forward_reference = is_forward_reference property;
})

-- a union by its properties, its size and its names
abbrev pub union_by : ℕ → SizedNames → TypeData
union_by property named = Union (record {
  name = named.name;
  unique_name = named.unique_name;
  size = named.size;
  forward_reference = is_forward_reference property;
})

-- a class, a structure or an interface (lfClass): property in two bytes at 2, and size and names at 16
unfoldable pub class : ClassKind → List ℕ → Result TypeData StreamError
class class_kind bytes =
    if nat_lt (length bytes) 16 then Err CUT else
    (sized_names (two_byte_number (drop 2 bytes)) (drop 16 bytes)
    >>= λ named. Ok (class_by class_kind (two_byte_number (drop 2 bytes)) named))

-- a class, a structure or an interface of the newer layout: property in four bytes at 0, of which the lower two are
-- read, three indices, a two-byte number, and size and names at 18
unfoldable pub class2 : ClassKind → List ℕ → Result TypeData StreamError
class2 class_kind bytes =
    if nat_lt (length bytes) 18 then Err CUT else
    (sized_names (two_byte_number bytes) (drop 18 bytes)
    >>= λ named. Ok (class_by class_kind (two_byte_number bytes) named))

-- a union (lfUnion): property in two bytes at 2, and size and names at 8
unfoldable pub union : List ℕ → Result TypeData StreamError
union bytes =
    if nat_lt (length bytes) 8 then Err CUT else
    (sized_names (two_byte_number (drop 2 bytes)) (drop 8 bytes)
    >>= λ named. Ok (union_by (two_byte_number (drop 2 bytes)) named))

-- a union of the newer layout: property in four bytes at 0, of which the lower two are read, an index, a two-byte
-- number, and size and names at 10
unfoldable pub newer_union : List ℕ → Result TypeData StreamError
newer_union bytes =
    if nat_lt (length bytes) 10 then Err CUT else
    (sized_names (two_byte_number bytes) (drop 10 bytes)
    >>= λ named. Ok (union_by (two_byte_number bytes) named))

-- an enumeration (lfEnum): utype, the type of its values, at 4, and its name at 12
unfoldable pub enumeration : List ℕ → Result TypeData StreamError
enumeration bytes =
    if nat_lt (length bytes) 12 then Err CUT else
    (name_in (drop 12 bytes) >>= λ name. Ok (Enumeration (record {
      name = name.0;
      underlying_type = record { 0 = number (drop 4 bytes) };
    })))

-- another name of a type (lfAlias): utype at 0, and its name at 4. The records have no kind for an alias. Only an
-- enumeration has a name and the size of another type, so an alias becomes an enumeration with its name and its type
-- underneath
unfoldable pub alias : List ℕ → Result TypeData StreamError
alias bytes =
    if nat_lt (length bytes) 4 then Err CUT else
    (name_in (drop 4 bytes) >>= λ name. Ok (Enumeration (record {
      name = name.0;
      underlying_type = record { 0 = number bytes };
    })))

-- one value of an enumeration (lfEnumerate): two bytes of attributes, the value as a numeric leaf, and its name
unfoldable pub enumerate : List ℕ → Result TypeData StreamError
enumerate bytes =
    if nat_lt (length bytes) 2 then Err CUT else (do
      value ← numeric_leaf (drop 2 bytes)
      name ← name_in value.1
      Ok (Enumerate (record { name = name.0; value = value.0 })))
