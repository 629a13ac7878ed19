-- What a reader finds in a whole symbol file.
use Rattle.std.proofs.Common.{◌≡◌, ◌∙◌, ℕ, List, ◌++◌, All, ap, map, flat_map}
use Rattle.pdb_tables.specs.declared.segment.Segment.{Segment}
use Rattle.pdb_breakpad.specs.RecordTypes.{FunctionRecords, Numbers}
use Rattle.pdb_breakpad.specs.FunctionTexts.{function_text}
use Rattle.pdb_breakpad.specs.SymbolFile.{names_text, symbol_file_text}
use Rattle.pdb_breakpad.specs.ModuleRecord.{IsModuleLine, with_breaks}
use Rattle.pdb_breakpad.specs.WrittenRecords.{FitNumbers, FitTypes}
use Rattle.pdb_symbol_file_laws.specs.SymbolFileRecords.{function_read, names_read}
use Rattle.pdb_symbol_file_laws.specs.SymbolTextReader.{OtherLine, read_text}
use Rattle.pdb_symbol_file_laws.proofs.FrontLemmas.{front_read}
use Rattle.pdb_symbol_file_laws.proofs.TextLemmas.{records_read}

-- the records that were written are read of a whole file, after those of its module
pub file_read : (front : List (List ℕ)) (numbers : Numbers) (parameters : List (Segment ℕ))
    (functions : List FunctionRecords) → All IsModuleLine front → FitNumbers numbers → All (FitTypes parameters) functions
    → read_text (symbol_file_text (with_breaks front) numbers parameters functions)
    ≡ map (λ line. OtherLine) front ++ (names_read numbers ++ flat_map function_read functions)
file_read front numbers parameters functions modules small fits =
    front_read front (names_text numbers ++ flat_map (function_text parameters) functions) modules
    ∙ ap (λ said. map (λ line. OtherLine) front ++ said) (records_read numbers parameters functions small fits)

-- what a reader finds
pub ruleset read = (file_read, records_read)
