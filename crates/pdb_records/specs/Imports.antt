-- What a module imports from other modules.
use Rattle.std.specs.Prelude.{ℕ, List}
use Rattle.pdb_records.specs.declared.strings.StringRef.{StringRef}

-- the imports from one module: a reference to its name, and the numbers there
pub record Imported : Type 0 where
  pub module_name : StringRef
  pub locals : List ℕ
