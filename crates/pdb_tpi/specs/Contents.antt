-- The contents of items, or why a single item can't be read.
use Rattle.std.specs.Option.{option_map_or}
use Rattle.std.specs.Prelude.{ℕ, List, Option, Result, Ok, Err, alloc_error}
use Rattle.std.specs.declared.alloc.AllocError.{AllocError}
use Rattle.pdb_records.specs.declared.error.Error.{Error}
use Rattle.pdb_records.specs.declared.error.Error.TheVariants.{Stream, UnimplementedTypeKind}
use Rattle.pdb_records.specs.declared.error.StreamError.{StreamError}
use Rattle.pdb_msf.specs.declared.faults.Fault.{Fault}
use Rattle.pdb_msf.specs.declared.faults.Fault.TheVariants.{Broken, OutOfMemory}

-- the content of an item by its record; a fault of the record becomes the item's error
abbrev pub or_error : {T : Type 0} → Result T StreamError → Result T Error
or_error (Ok content) = Ok content
or_error (Err fault) = Err (Stream fault)

-- the content of a record, by the number of its kind and the bytes after it; an error if the kind has no name
abbrev pub content_by : {K T : Type 0} → (ℕ → Option K) → (K → List ℕ → Result T StreamError) → ℕ → List ℕ
    → Result T Error
content_by kind_of data_of number bytes =
    option_map_or (λ kind. or_error (data_of kind bytes)) (kind_of number) (Err (UnimplementedTypeKind number))

-- the content of an item by the result of reading it; an allocation failure stays one
abbrev pub content_of : {T : Type 0} → Result T Fault → Result (Result T Error) AllocError
content_of (Ok content) = Ok (Ok content)
content_of (Err (Broken fault)) = Ok (Err (Stream fault))
content_of (Err OutOfMemory) = Err alloc_error
