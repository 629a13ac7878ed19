-- The models of the code's read errors.
use Rattle.std.specs.Prelude.{◌≡◌}
use Rattle.pdb_types.specs.declared.read_error.ReadError.{ReadError}
use Rattle.pdb_types.specs.declared.read_error.ReadError.TheVariants as code
use Rattle.pdb_errors.specs.Errors.{error_view}
use Rattle.pdb_types.specs.ReadError.{ReadErrorView, Missing, Unimplemented, Refused, Broken}

-- this is the model of a read error; an allocation failure has none
abbrev pub IsViewOf : ReadError → ReadErrorView → Type 0
IsViewOf code.OutOfMemory read_error_view = ⊥
IsViewOf (code.Missing number) read_error_view = read_error_view ≡ Missing number
IsViewOf (code.Unimplemented kind) read_error_view = read_error_view ≡ Unimplemented kind
IsViewOf (code.Refused e) read_error_view = read_error_view ≡ Refused (error_view e)
IsViewOf (code.Broken part e) read_error_view = read_error_view ≡ Broken part (error_view e)
