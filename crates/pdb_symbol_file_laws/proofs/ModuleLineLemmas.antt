-- The lines in front of a symbol file that was written say which module it is of.
use Rattle.std.proofs.Common.{◌≢◌, ◌∙◌, ℕ, List, [], ◌∷◌, ◌++◌, codes, refl, sym, subst, inl, inr, eq-eqb}
use Rattle.std.proofs.Common.{true≢false, Option, Some, None}
use Rattle.std.specs.List.{All}
use Rattle.std.proofs.lemmas.List.Elements.{All-cons, All-nil}
use Rattle.pdb_frames.specs.Frame.{FramesInfo}
use Rattle.pdb_tables.specs.declared.segment.Segment.{Segment}
use Rattle.pdb_breakpad.specs.declared.module_record.ModuleIdentity.{ModuleIdentity}
use Rattle.pdb_breakpad.specs.declared.module_record.ProgramIdentity.{ProgramIdentity}
use Rattle.pdb_breakpad.specs.FunctionTexts.{line_text}
use Rattle.pdb_breakpad.specs.ModuleRecord.{IdentityTexts, IsModuleLine, module_line, module_lines}
use Rattle.pdb_breakpad.specs.ModuleRecord.{program_line, program_lines}
use Rattle.pdb_breakpad.specs.SymbolFile.{WritesSymbolFile, symbol_file_text}
use Rattle.pdb_symbol_file_laws.specs.TextAnswers.{AppendsAnswers, TextShows}
use Rattle.pdb_symbol_file_laws.proofs.AnswerLemmas.{text_shows}
use Rattle.pdb_symbol_file_laws.proofs.LineLemmas.{HasNone, none_in_both, tested}
use Rattle.pdb_symbol_file_laws.proofs.NameLemmas.{line_text_none}

-- bytes among which is no line break
all_others : (bytes : List ℕ) → HasNone 10 bytes → All (λ byte. byte ≢ 10) bytes
all_others [] none = All-nil (λ byte. byte ≢ 10)
all_others (b ∷ bytes) none =
    All-cons (λ byte. byte ≢ 10) b bytes (λ same. true≢false (sym (eq-eqb b 10 same) ∙ none.0))
    (all_others bytes none.1)

-- two texts with a space between them have no line break
pair_none : (first second : List ℕ) → HasNone 10 second → HasNone 10 (line_text first ++ (codes " " ++ second))
pair_none first second none =
    none_in_both 10 (line_text first) (codes " " ++ second) (line_text_none first)
    (none_in_both 10 (codes " ") second (tested 10 (codes " ") refl) none)

-- the line of a PDB file says which module a file is of
module_line_is : (machine debug_id name : List ℕ) → IsModuleLine (module_line machine debug_id name)
module_line_is machine debug_id name =
    let names : List ℕ = line_text debug_id ++ (codes " " ++ line_text name) in
    let rest : List ℕ = line_text machine ++ (codes " " ++ names) in (
      codes "windows " ++ rest,
      all_others (codes "windows " ++ rest)
          (none_in_both 10 (codes "windows ") rest (tested 10 (codes "windows ") refl)
          (pair_none machine names (pair_none debug_id (line_text name) (line_text_none name)))),
      inl refl,
    )

-- so does the line of a program
program_line_is : (code_id name : List ℕ) → IsModuleLine (program_line code_id name)
program_line_is code_id name =
    let rest : List ℕ = line_text code_id ++ (codes " " ++ line_text name) in (
      codes "CODE_ID " ++ rest,
      all_others (codes "CODE_ID " ++ rest)
          (none_in_both 10 (codes "CODE_ID ") rest (tested 10 (codes "CODE_ID ") refl)
          (pair_none code_id (line_text name) (line_text_none name))),
      inr refl,
    )

-- so does that of a program, if it is known
program_lines_are : (code_id : List ℕ) (program : Option ProgramIdentity)
    → All IsModuleLine (program_lines code_id program)
program_lines_are code_id None = All-nil IsModuleLine
program_lines_are code_id (Some program) =
    All-cons IsModuleLine (program_line code_id program.name.now) [] (program_line_is code_id program.name.now)
    (All-nil IsModuleLine)

-- so do all lines in front
module_lines_are : (texts : IdentityTexts) (identity : ModuleIdentity) → All IsModuleLine (module_lines texts identity)
module_lines_are texts identity =
    All-cons IsModuleLine (module_line texts.machine texts.debug_id identity.pdb_name.now)
    (program_lines texts.code_id identity.program)
    (module_line_is texts.machine texts.debug_id identity.pdb_name.now)
    (program_lines_are texts.code_id identity.program)

-- a reader of a symbol file that was written is shown what is answered
pub written_shows : {S : Type 0} (answers : S → ℕ → Option FramesInfo → Type 0) (source : S) (identity : ModuleIdentity)
    (parameters : List (Segment ℕ)) (old new : Option (List ℕ))
    → WritesSymbolFile answers source identity parameters old new
    → AppendsAnswers answers source old new
written_shows answers source identity parameters old new is = record {
  text = symbol_file_text is.front is.numbers parameters is.functions;
  functions = is.functions;
  appended = is.written;
  shows = λ address below.
      subst (λ front. TextShows answers source is.functions
      (symbol_file_text front is.numbers parameters is.functions) address)
      (sym is.begins.lines)
      (text_shows answers source (module_lines is.begins.texts identity) is.numbers parameters is.functions address is.are
      (module_lines_are is.begins.texts identity) is.numbers_fit is.fit is.ascend below);
}
