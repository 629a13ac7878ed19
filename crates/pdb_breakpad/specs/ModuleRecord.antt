-- The first records: of which program and which PDB file the others are.
use Rattle.std.specs.Prelude.{ℕ, ◌≡◌, ◌≢◌, ◌⊎◌, List, [], ◌∷◌, ◌++◌, codes, Option, Some, None}
use Rattle.std.specs.List.{All}
use Rattle.pdb_identity.specs.declared.machine.Machine.{Machine}
use Rattle.pdb_breakpad.specs.declared.module_record.ModuleIdentity.{ModuleIdentity}
use Rattle.pdb_breakpad.specs.declared.module_record.ProgramIdentity.{ProgramIdentity}
use Rattle.pdb_breakpad.specs.FunctionTexts.{line_text}

-- a line is a record of the module or its program
abbrev pub IsModuleLine : List ℕ → Type 0
IsModuleLine line = (text : List ℕ) × (All (λ byte. byte ≢ 10) text)
    × ((line ≡ codes "MODULE " ++ text) ⊎ (line ≡ codes "INFO " ++ text))

-- lines, each with a line break at its end
abbrev pub with_breaks : List (List ℕ) → List ℕ
with_breaks [] = []
with_breaks (line ∷ lines) = line ++ (codes "\n" ++ with_breaks lines)

-- `MODULE windows MACHINE ID NAME`: the machine, the debug id and the name of a PDB file
abbrev pub module_line : List ℕ → List ℕ → List ℕ → List ℕ
module_line machine debug_id name =
    codes "MODULE windows " ++ (line_text machine ++ (codes " " ++ (line_text debug_id
    ++ (codes " " ++ line_text name))))

-- `INFO CODE_ID ID NAME`: the code id and the name of a program
abbrev pub program_line : List ℕ → List ℕ → List ℕ
program_line code_id name = codes "INFO CODE_ID " ++ (line_text code_id ++ (codes " " ++ line_text name))

-- the line of a program, if it is known
abbrev pub program_lines : List ℕ → Option ProgramIdentity → List (List ℕ)
program_lines code_id None = []
program_lines code_id (Some program) = program_line code_id program.name.now ∷ []

-- the texts of a machine and of the two ids
pub record IdentityTexts : Type 0 where
  pub machine : List ℕ
  pub debug_id : List ℕ
  pub code_id : List ℕ

-- the text of a machine that isn't known is `unknown`
abbrev pub IsMachineText : Option Machine → List ℕ → Type 0
IsMachineText None text = text ≡ codes "unknown"
IsMachineText (Some machine) text = Unit {0}

-- the lines of a module: its own, and that of its program
abbrev pub module_lines : IdentityTexts → ModuleIdentity → List (List ℕ)
module_lines texts identity =
    module_line texts.machine texts.debug_id identity.pdb_name.now ∷ program_lines texts.code_id identity.program

-- the text of a module's records, with some texts of its machine and of its ids
pub record AreModuleRecords (identity : ModuleIdentity) (text : List ℕ) : Type 0 where
  pub texts : IdentityTexts
  pub machine : IsMachineText identity.machine texts.machine
  pub lines : text ≡ with_breaks (module_lines texts identity)
