-- The source lines of a module's code.
use Rattle.std.specs.Prelude.{List}
use Rattle.pdb_records.specs.declared.lines.SymbolLines.{SymbolLines}
use Rattle.pdb_records.specs.declared.lines.FileInfo.{FileInfo}

-- the line rows, function by function, and the files that they name
pub record Lines : Type 0 where
  pub entries : List SymbolLines
  pub files : List FileInfo
