-- Lists of types and ids.
use Rattle.std.specs.Prelude.{Result, Ok, Err, if◌then◌else◌, codes, []}
use Rattle.serde_json.specs.Data.{Data}
use Rattle.pdb_records.specs.declared.error.Error.{Error}
use Rattle.pdb_records.specs.declared.error.Error.TheVariants.{Stream, UnimplementedTypeKind}
use Rattle.pdb_records.specs.declared.types.Item.{Item}
use Rattle.pdb_records.specs.declared.types.ItemInformation.{ItemInformation}
use Rattle.pdb_json_values.specs.RecordFault.{Fault, shape, ◌>>=◌}
use Rattle.pdb_json_values.specs.Values.{object_of}
use Rattle.pdb_json_values.specs.JsonNumbers.{u16_of}
use Rattle.pdb_json_records.specs.Members.{has, member_of, reading_of, stream_error_of}

-- the error of a stream that can't be read
unfoldable pub failed_stream_of : Data → Result Error Fault
failed_stream_of d = do
  fault ← member_of (codes "stream") stream_error_of d
  Ok (Stream fault)

-- the error of a kind that isn't read
unfoldable pub unimplemented_kind_of : Data → Result Error Fault
unimplemented_kind_of d = do
  kind ← member_of (codes "unimplemented") u16_of d
  Ok (UnimplementedTypeKind kind)

-- why an entry can't be read: its stream can't be read, or its kind is unknown
unfoldable pub error_of : Data → Result Error Fault
error_of d = do
  error ← object_of d
  if has (codes "stream") error
      then failed_stream_of error
      else if has (codes "unimplemented") error
      then unimplemented_kind_of error
      else Err (shape [] (codes "kind"))

-- the content of an entry; with a member `error`, why it can't be read
unfoldable pub content_of : {D : Type 0} → (Data → Result D Fault) → Data → Result (Result D Error) Fault
content_of read d =
    if has (codes "error") d
    then (member_of (codes "error") error_of d >>= λ error. Ok (Err error))
    else (read d >>= λ said. Ok (Ok said))

module _ {I D : Type 0} where
  -- an entry: its index and its content
  unfoldable pub item_of : (Data → Result I Fault) → (Data → Result D Fault) → Data → Result (Item I D) Fault
  item_of number read d = do
    entry ← object_of d
    index ← member_of (codes "index") number entry
    content ← content_of read entry
    Ok (record { index = index; content = content })

  -- a list of types or ids
  unfoldable pub items_of : (Data → Result I Fault) → (Data → Result D Fault)
      → Data → Result (ItemInformation I D) Fault
  items_of number read d = do
    items ← reading_of (item_of number read) d
    Ok (record { items = items })
