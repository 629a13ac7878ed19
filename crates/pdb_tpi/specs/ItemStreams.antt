-- Streams of types or of ids: the header, the records after it, and their items.
use Rattle.std.specs.Prelude.{ℕ, ◌+◌, ◌-◌, ◌^◌, min, List, [], ◌∷◌, ◌++◌, drop, slice_get, Option, option_map}
use Rattle.std.specs.Prelude.{Result, Ok}
use Rattle.pdb_records.specs.declared.error.Error.{Error}
use Rattle.pdb_records.specs.declared.error.StreamError.{StreamError}
use Rattle.pdb_records.specs.declared.types.Item.{Item}
use Rattle.pdb_records.specs.declared.types.ItemInformation.{ItemInformation}
use Rattle.pdb_msf.specs.Faults.{◌>>=◌}
use Rattle.pdb_msf.specs.Readings.{with_fault}
use Rattle.pdb_dbi.specs.Substreams.{substream}
use Rattle.pdb_tpi.specs.declared.type_stream_header.TypeHeader.{TypeHeader}
use Rattle.pdb_tpi.specs.TypeStreamHeader.{type_header}
use Rattle.pdb_tpi.specs.TypeRecords.{TypeBytes, type_records}

-- a list of types or ids: the index of the first one, the records in order, and the fault if they end early
pub record TypeList : Type 0 where
  pub first : ℕ
  pub records : List TypeBytes
  pub fault : Option StreamError

-- the list after a header: the records in TypeRecordBytes bytes, as far as the stream has them
abbrev pub list_behind : TypeHeader → List ℕ → TypeList
list_behind header stream =
    let bytes = substream header.type_record_bytes (drop header.header_size stream) in
    let records = with_fault bytes.fault (type_records bytes.bytes) in
    record { first = header.type_index_begin; records = records.items; fault = records.fault }

-- the list in a stream; an error if the header is broken
abbrev pub type_list : List ℕ → Result TypeList StreamError
type_list stream = type_header stream >>= λ header. Ok (list_behind header stream)

-- how the records of a list are read as items: the index for a number, the content of a record by its kind and the
-- bytes after it, and the items that every list begins with
pub record ItemMeaning (I D : Type 0) : Type 0 where
  pub index : ℕ → I
  pub content : ℕ → List ℕ → Result D Error
  pub first : List (Item I D)

-- the index of the record at a position: indices are consecutive, up to 2 ^ 32 - 1
abbrev pub index_at : ℕ → ℕ → ℕ
index_at first position = min (first + position) (2 ^ 32 - 1)

-- the item of a record, by its position in a list whose first index is `first`
abbrev pub item_of : {I D : Type 0} → ItemMeaning I D → ℕ → ℕ → TypeBytes → Item I D
item_of meaning first position bytes = record {
  index = meaning.index (index_at first position);
  content = meaning.content bytes.kind bytes.content;
}

-- the item at a position of a list, if the list has one there
abbrev pub item_at : {I D : Type 0} → ItemMeaning I D → TypeList → ℕ → Option (Item I D)
item_at meaning list position = option_map (item_of meaning list.first position) (slice_get list.records position)

-- the items of records, by their positions; `position` is that of the first record
abbrev pub items_from : {A : Type 0} → (ℕ → TypeBytes → A) → ℕ → List TypeBytes → List A
items_from item position [] = []
items_from item position (bytes ∷ rest) = item position bytes ∷ items_from item (position + 1) rest

-- all items of a list, after the items that every list begins with
abbrev pub list_items : {I D : Type 0} → ItemMeaning I D → TypeList → ItemInformation I D
list_items meaning list = record {
  items = record {
    items = meaning.first ++ items_from (item_of meaning list.first) 0 list.records;
    fault = list.fault;
  };
}

-- all items of a stream
abbrev pub stream_items : {I D : Type 0} → ItemMeaning I D → List ℕ → Result (ItemInformation I D) StreamError
stream_items meaning stream = type_list stream >>= λ list. Ok (list_items meaning list)
