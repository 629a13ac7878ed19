-- A function has one frame for each level, and its own.
use Rattle.std.proofs.Common.{◌≡◌, ◌∙◌, ℕ, ◌+◌, List, [], ◌∷◌, ◌++◌, length, refl, sym, ap, arith, length-append}
use Rattle.std.proofs.lemmas.List.{length-reverse, length-map}
use Rattle.std.specs.Prelude.{Option, Some, None, Result, Ok, reverse}
use Rattle.pdb_records.specs.LinePrograms.{Lines}
use Rattle.pdb_records.specs.declared.modules.Inlinee.{Inlinee}
use Rattle.pdb_errors.specs.Outcomes.{streamed, unless}
use Rattle.pdb_records.specs.declared.addresses.PdbInternalSectionOffset.{PdbInternalSectionOffset}
use Rattle.pdb_records.specs.Addresses.{internal_offset}
use Rattle.pdb_records.specs.declared.ids.IdIndex.{IdIndex}
use Rattle.pdb_records.specs.declared.modules.ModuleInfo.{ModuleInfo}
use Rattle.pdb_records.specs.Provided.{ProviderInfos}
use Rattle.pdb_errors.specs.declared.error.Error.{Error}
use Rattle.pdb_functions.specs.FunctionMatches.{FunctionMatch, found_procedure, found_global}
use Rattle.pdb_inline.specs.InlineRanges.{inline_ranges}
use Rattle.pdb_inline.specs.InlineStacks.{inline_stack}
use Rattle.pdb_inline.specs.Sites.{walk}
use Rattle.pdb_inline.specs.declared.inline_ranges.InlineRange.{InlineRange}
use Rattle.pdb_inline.proofs.InlineStackLemmas.{length-inline_stack}
use Rattle.pdb_inline.proofs.NestingLemmas.{procedure_nested}
use Rattle.pdb_frames.specs.ExtendedInfo.{ExtendedInfo, inlinee_ids, extended_info}
use Rattle.pdb_frames.specs.Frame.{FrameInfo, FramesInfo}
use Rattle.pdb_frames.specs.Lines.{function_row, read_whole}
use Rattle.pdb_frames.specs.CodeLocations.{CodeLocation, function_ranges, code_location}
use Rattle.pdb_functions.specs.FunctionMatches.{function_module, function_start}
use Rattle.pdb_addr2line.specs.FrameLaws.{levels_over}
use Rattle.pdb_function_info.specs.Frames.{Strings, own_frame, inlined_frames, function_frames}
use Rattle.pdb_addr2line.specs.Lookups.{found_at, frames_at, records_of}
use Rattle.pdb_function_info.specs.NameTexts.{function_name, id_name}
use Rattle.pdb_addr2line.specs.ContextInputs.{ContextInputs, global_functions_of}
use Rattle.pdb_addr2line.proofs.FrameLawLemmas.{and_then-ok, frames_info_at}

-- what isn't refused is the answer
pub unless-ok : {A : Type 0} (refusal : Option Error) (answer : Result A Error) (a : A) → unless refusal answer ≡ Ok a
    → answer ≡ Ok a
unless-ok None answer a is = is
unless-ok (Some e) answer a is = absurd cc

-- what is known of a module's code with this line program and these inlinees
abbrev pub known_with : Lines → List Inlinee → ExtendedInfo
known_with program inlinees = record { line_program = program; inlinees = inlinee_ids inlinees }

-- the inlinees that are known are those of the module
pub known_inlinees : (info : ModuleInfo) (known : ExtendedInfo) → extended_info info ≡ Ok known
    → known.inlinees ≡ inlinee_ids info.inlinees.items
known_inlinees info known is =
    let program = and_then-ok (streamed info.line_program) _ known is in
    let inlinees = and_then-ok (read_whole info.inlinees) _ known program.2 in
    let whole = unless-ok _ (Ok info.inlinees.items) inlinees.0 inlinees.1 in
    let items : info.inlinees.items ≡ inlinees.0 = cc in
    let same : known_with program.0 inlinees.0 ≡ known = cc in
    sym (ap (λ (k : ExtendedInfo). k.inlinees) same) ∙ ap inlinee_ids (sym items)

-- of the ranges of a function there is a stack with an entry for each level
stack_levels : (info : ModuleInfo) (found : FunctionMatch) (x : ℕ) (ids : List IdIndex) (ranges : List InlineRange)
    → ids ≡ inlinee_ids info.inlinees.items → function_ranges ids info found ≡ Ok ranges
    → length (inline_stack ranges x) ≡ levels_over (Some info) found x
stack_levels info (found_global m f) x ids ranges of_module is = let none : [] ≡ ranges = cc in rw (← none) refl
stack_levels info (found_procedure m p) x ids ranges of_module is =
    let w = walk info.symbols.items info.symbols.fault p.symbol_index.0 p.end_symbol_index.0 in
    let ok = unless-ok _ (Ok (inline_ranges ids w.sites)) ranges is in
    let same : inline_ranges ids w.sites ≡ ranges = cc in
    rw (← same, ← of_module) (length-inline_stack ids w.sites x
    (procedure_nested info.symbols.items info.symbols.fault p.symbol_index.0 p.end_symbol_index.0))

-- what was read of where code comes from: what is known of the module's code, and the ranges of the function
pub origin_parts : (info : ModuleInfo) (found : FunctionMatch) (x : ℕ) (o : CodeLocation) → code_location info found x ≡ Ok o
    → (known : ExtendedInfo) × (ranges : List InlineRange) × (extended_info info ≡ Ok known)
    × (function_ranges known.inlinees info found ≡ Ok ranges) × (known.line_program ≡ o.line_program)
    × (inline_stack ranges x ≡ o.stack)
origin_parts info found x o is =
    let known = and_then-ok (extended_info info) _ o is in
    let row = and_then-ok (function_row known.0.line_program (function_start found) x) _ o known.2 in
    let ranges = and_then-ok (function_ranges known.0.inlinees info found) _ o row.2 in
    let made : CodeLocation = record { line_program = known.0.line_program; row = row.0; stack = inline_stack ranges.0 x } in
    let same : made ≡ o = cc in
    (known.0, ranges.0, known.1, ranges.1, ap (λ (u : CodeLocation). u.line_program) same, ap (λ (u : CodeLocation). u.stack) same)

-- where code comes from has an inlined body for each level
origin_levels : (info : ModuleInfo) (found : FunctionMatch) (x : ℕ) (o : CodeLocation) → code_location info found x ≡ Ok o
    → length o.stack ≡ levels_over (Some info) found x
origin_levels info found x o is =
    let parts = origin_parts info found x o is in
    rw (← parts.5)
    (stack_levels info found x parts.0.inlinees parts.1 (known_inlinees info parts.0 parts.2) parts.3)

-- a function has a frame for each level, and its own
level_frames : (strings : Strings) (name_of : IdIndex → Option (List ℕ)) (name : Option (List ℕ))
    (records : Option ModuleInfo) (found : FunctionMatch) (x : ℕ) (frames : List FrameInfo)
    → function_frames strings name_of name records found x ≡ Ok frames → length frames ≡ levels_over records found x + 1
level_frames strings name_of name None found x frames is =
    let alone : FrameInfo = record { function = name; file = None; line = None } in
    let same : alone ∷ [] ≡ frames = cc in
    rw (← same) refl
level_frames strings name_of name (Some info) found x frames is =
    let here = and_then-ok (code_location info found x) _ frames is in
    let o = here.0 in
    let bodies = inlined_frames strings o.line_program name_of o.stack in
    let same : reverse bodies ++ own_frame strings name o.line_program o.row ∷ [] ≡ frames = cc in
    rw (← same, ← origin_levels info found x o here.1) (simp (length-append, length-reverse, length-map) (omega arith))

-- over an address there is a frame for each level, and that of the function
pub frames_by_level : {P : Type 0} (info : P → ProviderInfos) (s : ContextInputs P) (address : ℕ)
    (section_offset : PdbInternalSectionOffset)
    (found : FunctionMatch) (frames_info : FramesInfo)
    → internal_offset s.address_map (record { 0 = address }) ≡ Some section_offset
    → found_at info s address ≡ Some found
    → frames_at info s address ≡ Ok (Some frames_info)
    → length frames_info.frames ≡ levels_over (records_of info s found) found section_offset.offset + 1
frames_by_level info s address section_offset found frames_info lies over answered =
    let is = frames_info_at info s address section_offset found frames_info lies over answered in
    level_frames s.strings (id_name info s.type_inputs (function_module found))
    (function_name info s.type_inputs (global_functions_of s) found)
    (records_of info s found) found section_offset.offset frames_info.frames is.frames
