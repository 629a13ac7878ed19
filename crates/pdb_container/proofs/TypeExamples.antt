-- Worked examples of the types and the ids of a file, by a container written by hand.
use Rattle.std.proofs.Common.{◌≡◌, ℕ, List, [], ◌∷◌, ◌++◌, take, refl}
use Rattle.std.specs.Prelude.{None, Ok, Err, true, codes}
use Rattle.std.proofs.Math.ListN.{replicate}
use Rattle.pdb_records.specs.declared.ids.IdData.TheVariants as id
use Rattle.pdb_records.specs.declared.types.TypeData.TheVariants as type
use Rattle.pdb_msf.specs.ItemLists.{all_items}
use Rattle.pdb_msf.specs.declared.faults.TheConstants.{CUT}
use Rattle.pdb_msf.specs.Msf.{Msf, numbers_place, size_of, stream_of}
use Rattle.pdb_msf.specs.NumberLists.{listed}
use Rattle.pdb_msf.specs.Streams.{stream_inside}
use Rattle.pdb_tpi.specs.TypeStreamHeader.{type_header}
use Rattle.pdb_tpi.specs.IdLeaves.{id_data, no_ids, string}
use Rattle.pdb_tpi.specs.Primitives.{primitives}
use Rattle.pdb_tpi.specs.TypeLeaves.{modifier, type_data}
use Rattle.pdb_container.specs.Info.{features_in}
use Rattle.pdb_container.specs.TypeRecords.{id_information, type_information}

-- a number below 256, as two bytes and as four
abbrev short : ℕ → List ℕ
short number = number ∷ 0 ∷ []

abbrev small : ℕ → List ℕ
small number = number ∷ 0 ∷ 0 ∷ 0 ∷ []

-- a block of 512 bytes that begins with these, with zeros after them
abbrev block_of : List ℕ → List ℕ
block_of bytes = take 512 (bytes ++ replicate 512 0)

-- an info stream that names no stream and lists one feature: 20140508, that there are ids, or another number
abbrev info_with : List ℕ → List ℕ
info_with feature = replicate 28 0 ++ small 0 ++ small 0 ++ small 1 ++ small 0 ++ small 0 ++ feature

abbrev has_ids : List ℕ
has_ids = 220 ∷ 81 ∷ 51 ∷ 1 ∷ []

-- the header of a stream with one record of twelve bytes, whose index is 0x1000
abbrev header : List ℕ
header =
    11 ∷ 202 ∷ 49 ∷ 1 ∷ [] ++ small 56 ++ 0 ∷ 16 ∷ 0 ∷ 0 ∷ [] ++ 1 ∷ 16 ∷ 0 ∷ 0 ∷ [] ++ small 12 ++ replicate 36 0

-- LF_MODIFIER of a constant T_CHAR, and LF_STRING_ID
abbrev type_record : List ℕ
type_record = 10 ∷ 0 ∷ 1 ∷ 16 ∷ [] ++ small 16 ++ short 1 ++ 242 ∷ 241 ∷ []

abbrev id_record : List ℕ
id_record = 10 ∷ 0 ∷ 5 ∷ 22 ∷ [] ++ small 0 ++ codes "ns" ++ 0 ∷ 241 ∷ []

-- five streams: two without bytes, the info stream, that of types with the number 2, and that of ids with the number 4
abbrev msf_with : List ℕ → Msf
msf_with feature = record {
  file = replicate 512 0 ++ block_of (info_with feature) ++ block_of (header ++ type_record)
      ++ block_of (header ++ id_record);
  block_size = 512;
  directory = small 5 ++ small 0 ++ small 52 ++ small 68 ++ small 0 ++ small 68 ++ small 1 ++ small 2 ++ small 3;
  sizes = 0 ∷ 52 ∷ 68 ∷ 0 ∷ 68 ∷ [];
}

one_type : type_information (msf_with has_ids) ≡ Ok (record {
  items = record {
    items = primitives ++ record {
      index = record { 0 = 0x1000 };
      content = Ok (type.Modifier (record { underlying_type = record { 0 = 0x10 }; constant = true }));
    } ∷ [];
    fault = None;
  };
})
unfolding type_information stream_of size_of listed stream_inside numbers_place type_header all_items type_data
    modifier
one_type = refl

one_id : id_information (msf_with has_ids) ≡ Ok (record {
  items = record {
    items = record { index = record { 0 = 0x1000 }; content = Ok (id.String (record { name = codes "ns" })) } ∷ [];
    fault = None;
  };
})
unfolding id_information stream_of size_of listed stream_inside numbers_place features_in type_header all_items
    id_data string
one_id = refl

-- a file that doesn't list that it has ids
no_ids_listed : id_information (msf_with (codes "MINI")) ≡ Ok no_ids
unfolding id_information stream_of size_of listed stream_inside numbers_place features_in
no_ids_listed = refl

-- a file that lists that it has ids and has no stream of them, and one whose stream of them is cut
no_id_stream : id_information (record (msf_with has_ids) { sizes = 0 ∷ 52 ∷ 68 ∷ 0 ∷ 4294967295 ∷ [] }) ≡ Ok no_ids
unfolding id_information stream_of size_of listed stream_inside numbers_place features_in
no_id_stream = refl

id_stream_cut : id_information (record (msf_with has_ids) { sizes = 0 ∷ 52 ∷ 68 ∷ 0 ∷ 19 ∷ [] }) ≡ Err CUT
unfolding id_information stream_of size_of listed stream_inside numbers_place features_in type_header
id_stream_cut = refl
