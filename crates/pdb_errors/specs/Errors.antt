-- The models of errors.
use Rattle.std.specs.Prelude.{ℕ, List, string_bytes}
use Rattle.pdb_errors.specs.declared.error.Error.{Error}
use Rattle.pdb_errors.specs.declared.error.Error.TheVariants as error

-- the model of an error, with a name as its bytes
pub data ErrorView : Type 0 where
  Plain : Error → ErrorView
  NoModuleNamed : List ℕ → ErrorView

-- the model of this error
abbrev pub error_view : Error → ErrorView
error_view (error.ModuleNameNotFound name) = NoModuleNamed (string_bytes name)
error_view e = Plain e
