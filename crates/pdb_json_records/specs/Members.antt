-- How members of objects, lists, readings and streams are read.
use Rattle.std.specs.Prelude.{ℕ, ◌+◌, List, [], ◌∷◌, Bool, Option, Some, None, Result, Ok, Err}
use Rattle.std.specs.Prelude.{is_some, unwrap_or, decimal, if◌then◌else◌, codes}
use Rattle.serde_json.specs.Data.{Data, null, Items, no_items, item}
use Rattle.serde_json.specs.Find.{get, as_null, as_object}
use Rattle.pdb_records.specs.Readings.{Read}
use Rattle.pdb_records.specs.declared.error.StreamError.{StreamError}
use Rattle.pdb_json_values.specs.RecordFault.{Fault, ◌>>=◌, read_inside}
use Rattle.pdb_json_values.specs.Values.{array_of}
use Rattle.pdb_json_values.specs.JsonNumbers.{u32_of}

-- whether an object has a member of this name, whatever its value
abbrev pub has : List ℕ → Data → Bool
has name d = is_some (get name d)

module _ {X : Type 0} where
  -- the member of an object with this name; a missing member is read like `null`
  unfoldable pub member_of : List ℕ → (Data → Result X Fault) → Data → Result X Fault
  member_of name read d = read_inside name (read (unwrap_or (get name d) null))

  -- none for `null`, else the value that is read
  unfoldable pub optional_of : (Data → Result X Fault) → Data → Result (Option X) Fault
  optional_of read d = if is_some (as_null d) then Ok None else (read d >>= λ x. Ok (Some x))

  -- the elements of an array, which are numbered from `number` on in the paths of faults
  abbrev pub all_from : ℕ → (Data → Result X Fault) → Items → Result (List X) Fault
  all_from number read no_items = Ok []
  all_from number read (item d ds) = do
    x ← read_inside (decimal number) (read d)
    xs ← all_from (number + 1) read ds
    Ok (x ∷ xs)

  -- an array; its elements are numbered from 0
  unfoldable pub list_of : (Data → Result X Fault) → Data → Result (List X) Fault
  list_of read d = do
    ds ← array_of d
    all_from 0 read ds

-- a stream's error, from its number
unfoldable pub stream_error_of : Data → Result StreamError Fault
stream_error_of d = do
  n ← u32_of d
  Ok (record { 0 = n })

module _ {X : Type 0} where
  -- a reading from an object with `items` and perhaps a `fault`
  unfoldable pub faulty_of : (Data → Result X Fault) → Data → Result (Read X) Fault
  faulty_of read d = do
    items ← member_of (codes "items") (list_of read) d
    fault ← member_of (codes "fault") (optional_of stream_error_of) d
    Ok (record { items = items; fault = fault })

  -- a reading from an array, which has no fault
  unfoldable pub whole_list_of : (Data → Result X Fault) → Data → Result (Read X) Fault
  whole_list_of read d = do
    items ← list_of read d
    Ok (record { items = items; fault = None })

  -- a reading: an array, or an object with the array and the fault that ended it
  unfoldable pub reading_of : (Data → Result X Fault) → Data → Result (Read X) Fault
  reading_of read d = if is_some (as_object d) then faulty_of read d else whole_list_of read d

  -- a stream: an object with a member `error` is a stream that can't be read; any other value is its content
  unfoldable pub stream_of : (Data → Result X Fault) → Data → Result (Result X StreamError) Fault
  stream_of read d =
      if has (codes "error") d
      then (member_of (codes "error") stream_error_of d >>= λ fault. Ok (Err fault))
      else (read d >>= λ x. Ok (Ok x))
