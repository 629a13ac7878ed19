-- A whole symbol file: its text, and what a reader finds in it.
use Rattle.std.specs.Prelude.{ℕ, List, ◌++◌, codes, Option}
use Rattle.std.specs.Io.KnownBytes.{Appends}
use Rattle.std.specs.List.{All, flat_map}
use Rattle.pdb_frames.specs.Frame.{FramesInfo}
use Rattle.pdb_tables.specs.declared.segment.Segment.{Segment}
use Rattle.pdb_breakpad.specs.declared.function_records.FunctionRecords.{FunctionRecords}
use Rattle.pdb_breakpad.specs.declared.module_record.ModuleIdentity.{ModuleIdentity}
use Rattle.pdb_breakpad.specs.declared.record_numbers.Numbers.{Numbers}
use Rattle.pdb_breakpad.specs.FunctionTexts.{function_text}
use Rattle.pdb_breakpad.specs.FunctionWalk.{AreFunctions}
use Rattle.pdb_breakpad.specs.ModuleRecord.{AreModuleRecords}
use Rattle.pdb_breakpad.specs.NameRecords.{name_records}
use Rattle.pdb_breakpad.specs.WrittenRecords.{FitNumbers, FitTypes, InlinesAscend}

-- the records of files and of inlined functions' names, by their numbers
abbrev pub names_text : Numbers → List ℕ
names_text numbers =
    name_records (codes "FILE ") 0 numbers.files ++ name_records (codes "INLINE_ORIGIN ") 0 numbers.origins

-- the text of a symbol file: the records of its module, those of files and names, and then those of functions
abbrev pub symbol_file_text : List ℕ → Numbers → List (Segment ℕ) → List FunctionRecords → List ℕ
symbol_file_text front numbers parameters functions =
    front ++ (names_text numbers ++ flat_map (function_text parameters) functions)

-- the text of a symbol file was written: the records of this module, those of files and names, and those of functions.
-- The numbers fit, and the functions show the source's answers, have these parameter sizes, fit their types and have
-- ascending inlined calls
pub record WritesSymbolFile {S : Type 0} (answers : S → ℕ → Option FramesInfo → Type 0) (source : S)
    (identity : ModuleIdentity) (parameters : List (Segment ℕ)) (old new : Option (List ℕ)) : Type 0 where
  pub front : List ℕ
  pub numbers : Numbers
  pub functions : List FunctionRecords
  pub begins : AreModuleRecords identity front
  pub numbers_fit : FitNumbers numbers
  pub are : AreFunctions answers source numbers functions
  pub fit : All (FitTypes parameters) functions
  pub ascend : All InlinesAscend functions
  pub written : Appends old new (symbol_file_text front numbers parameters functions)
