-- The function that contains a section offset.
use Rattle.std.specs.Prelude.{ℕ, Bool, List, [], Option, Some, None, slice_get, find}
use Rattle.std.specs.Prelude.{nat_le, nat_lt, ◌==◌, ◌&&◌, option_and_then, if◌then◌else◌}
use Rattle.pdb_records.specs.Addresses.{is_same_section_offset}
use Rattle.pdb_records.specs.declared.addresses.PdbInternalSectionOffset.{PdbInternalSectionOffset}
use Rattle.pdb_records.specs.declared.debug_information.Module.{Module}
use Rattle.pdb_functions.specs.declared.merged_contributions.ModuleSectionContribution.{ModuleSectionContribution}
use Rattle.pdb_functions.specs.GlobalFunctions.{GlobalFunction}
use Rattle.pdb_functions.specs.Procedures.{ModuleProcedure, provided_procedures}
use Rattle.pdb_tables.specs.Pick.{pick}
use Rattle.pdb_functions.specs.Spans.{contribution_covers, procedure_covers, global_function_covers}
use Rattle.pdb_functions.specs.declared.function_matches.FunctionMatch as code
use Rattle.pdb_functions.specs.declared.function_matches.FunctionMatch.TheVariants as variant
use Rattle.pdb_functions.specs.GlobalFunctions.{global_function}
use Rattle.pdb_functions.specs.Procedures.{module_procedure}
use Rattle.pdb_records.specs.Provided.{ProviderInfos}

-- the procedures of the module with this index
abbrev pub procedures_of_module : ProviderInfos → List Module → ℕ → List ModuleProcedure
procedures_of_module infos modules index = provided_of (slice_get modules index) where
  provided_of : Option Module → List ModuleProcedure
  provided_of None = []
  provided_of (Some m) = provided_procedures (infos index m)

-- the function that contains a section offset: a procedure of the module with this index, or a global function
pub data FunctionMatch : Type 0 where
  found_procedure : ℕ → ModuleProcedure → FunctionMatch
  found_global : ℕ → GlobalFunction → FunctionMatch

-- the model of the code's `FunctionMatch`
abbrev pub function_match : code.FunctionMatch → FunctionMatch
function_match (variant.Procedure m p) = found_procedure m (module_procedure p)
function_match (variant.Global m f place) = found_global m (global_function f)

-- the module index of the module that a function was found in
abbrev pub function_module : FunctionMatch → ℕ
function_module (found_procedure m p) = m
function_module (found_global m f) = m

-- where a function starts
abbrev pub function_start : FunctionMatch → PdbInternalSectionOffset
function_start (found_procedure m p) = p.offset
function_start (found_global m f) = f.start

-- a global function, if it doesn't start below the contribution
abbrev pub global_in : ModuleSectionContribution → Option GlobalFunction → Option FunctionMatch
global_in c None = None
global_in c (Some f) = if nat_le c.start_offset f.start.offset then Some (found_global c.module_index f) else None

-- the procedure of a contribution's module if there is one, otherwise the global function
abbrev pub found_or_global : ModuleSectionContribution → Option GlobalFunction → Option ModuleProcedure
    → Option FunctionMatch
found_or_global c global (Some p) = Some (found_procedure c.module_index p)
found_or_global c global None = global_in c global

-- the function at a section offset in a contribution: the procedure of its module with the greatest start that covers
-- the offset; otherwise the global function with the greatest start at or below the offset in the section
abbrev pub function_in_contribution : ProviderInfos → List Module → List GlobalFunction → PdbInternalSectionOffset
    → ModuleSectionContribution → Option FunctionMatch
function_in_contribution infos modules globals section_offset c =
    found_or_global c
    (pick (global_function_covers section_offset) (λ f. f.start.offset) globals)
    (pick (procedure_covers section_offset) (λ p. p.offset.offset) (procedures_of_module infos modules c.module_index))

-- the function that contains a section offset; none outside the contributions
abbrev pub function_over : ProviderInfos → List Module → List ModuleSectionContribution → List GlobalFunction
    → PdbInternalSectionOffset → Option FunctionMatch
function_over infos modules contributions globals section_offset =
    let contribution = find (contribution_covers section_offset) contributions in
    option_and_then (function_in_contribution infos modules globals section_offset) contribution

-- an optional value, if it passes a test
abbrev pub where_passes : {T : Type 0} → (T → Bool) → Option T → Option T
where_passes passes None = None
where_passes passes (Some x) = if passes x then Some x else None

-- the first global function of a list that starts at a section offset
abbrev pub global_at : PdbInternalSectionOffset → List GlobalFunction → Option GlobalFunction
global_at section_offset globals = find (λ f. is_same_section_offset f.start section_offset) globals

-- the next global function of a section after an offset, in an ascending list
abbrev pub next_global : PdbInternalSectionOffset → List GlobalFunction → Option GlobalFunction
next_global section_offset globals =
    find (λ f. (f.start.section == section_offset.section) && nat_lt section_offset.offset f.start.offset) globals
