-- Why a type or an id can't be read.
use Rattle.std.specs.Prelude.{◌≡◌, ℕ, Result, Ok, Err}
use Rattle.pdb_records.specs.declared.error.Error as records
use Rattle.pdb_records.specs.declared.error.Error.TheVariants.{TypeNotFound, UnimplementedTypeKind}
use Rattle.pdb_errors.specs.declared.error.Error.TheVariants.{PdbError}
use Rattle.pdb_types.specs.declared.read_error.Part.{Part}
use Rattle.pdb_types.specs.declared.read_error.ReadError.{ReadError}
use Rattle.pdb_types.specs.declared.read_error.ReadError.TheVariants as code
use Rattle.pdb_errors.specs.Errors.{ErrorView, Plain, error_view}

-- the model of a read error: no entry has this number, its kind isn't known, there is no answer, or a part of the
-- records is broken. An allocation failure is none of these
pub data ReadErrorView : Type 0 where
  Missing : ℕ → ReadErrorView
  Unimplemented : ℕ → ReadErrorView
  Refused : ErrorView → ReadErrorView
  Broken : Part → ErrorView → ReadErrorView

-- the model of the read error for an error of the records
abbrev pub read_error_view_by : records.Error → ReadErrorView
read_error_view_by (TypeNotFound number) = Missing number
read_error_view_by (UnimplementedTypeKind kind) = Unimplemented kind
read_error_view_by other = Refused (Plain (PdbError other))

-- the read error for an error of the records
abbrev pub read_error_by : records.Error → ReadError
read_error_by (TypeNotFound number) = code.Missing number
read_error_by (UnimplementedTypeKind kind) = code.Unimplemented kind
read_error_by other = code.Refused (PdbError other)

-- a result is the defined one, or has the model of the defined read error, except after an allocation failure
abbrev pub Matches : {A B : Type 0} → (A → B) → Result A ReadError → Result B ReadErrorView → Type 0
Matches view (Ok answer) definition = definition ≡ Ok (view answer)
Matches view (Err code.OutOfMemory) definition = Unit {0}
Matches view (Err (code.Missing number)) definition = definition ≡ Err (Missing number)
Matches view (Err (code.Unimplemented kind)) definition = definition ≡ Err (Unimplemented kind)
Matches view (Err (code.Refused e)) definition = definition ≡ Err (Refused (error_view e))
Matches view (Err (code.Broken part e)) definition = definition ≡ Err (Broken part (error_view e))
