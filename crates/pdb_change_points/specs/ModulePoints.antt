-- The change points of modules.
use Rattle.std.specs.Prelude.{ℕ, List, [], ◌++◌, Option, Some, None, Result, Ok, Err}
use Rattle.std.specs.List.{flat_map}
use Rattle.std.specs.Result.{result_unwrap_or}
use Rattle.pdb_records.specs.declared.addresses.AddressRange.{AddressRange}
use Rattle.pdb_records.specs.declared.error.StreamError.{StreamError}
use Rattle.pdb_records.specs.declared.ids.IdIndex.{IdIndex}
use Rattle.pdb_records.specs.declared.modules.ModuleInfo.{ModuleInfo}
use Rattle.pdb_errors.specs.declared.error.Error.{Error}
use Rattle.pdb_functions.specs.Procedures.{ModuleProcedure, info_procedures}
use Rattle.pdb_inline.specs.InlineRanges.{procedure_inline_ranges}
use Rattle.pdb_inline.specs.declared.inline_ranges.InlineRange.{InlineRange}
use Rattle.pdb_frames.specs.ExtendedInfo.{ExtendedInfo, extended_info}
use Rattle.pdb_change_points.specs.Points.{procedure_points, entry_points, range_points}

-- the inline ranges of a procedure; none if they are refused
abbrev pub ranges_or_none : List IdIndex → ModuleInfo → ModuleProcedure → List InlineRange
ranges_or_none inlinees info p =
    result_unwrap_or (procedure_inline_ranges inlinees info p.symbol_index.0 p.end_symbol_index.0) []

-- the change points of the inline ranges of procedures of a module
abbrev pub inlined_points : List AddressRange → List IdIndex → ModuleInfo → List ModuleProcedure → List ℕ
inlined_points sections inlinees info procedures =
    flat_map (λ p. range_points sections p.offset.section (ranges_or_none inlinees info p)) procedures

-- the change points of a module's code, apart from its procedures: those of its line program and of the inline ranges
-- of its procedures; none if the records of the code are refused
abbrev pub code_points : List AddressRange → ModuleInfo → Result ExtendedInfo Error → List ℕ
code_points sections info (Ok known) =
    entry_points sections known.line_program.entries
    ++ inlined_points sections known.inlinees info (info_procedures info)
code_points sections info (Err e) = []

-- the change points of a module's records: those of its procedures, and those of the rest of its code
abbrev pub module_points : List AddressRange → ModuleInfo → List ℕ
module_points sections info =
    procedure_points sections (info_procedures info) ++ code_points sections info (extended_info info)

-- the change points of a module by a provider's answer; missing or broken records have none
abbrev pub answer_points : List AddressRange → Result (Option ModuleInfo) StreamError → List ℕ
answer_points sections (Ok (Some info)) = module_points sections info
answer_points sections (Ok None) = []
answer_points sections (Err fault) = []
