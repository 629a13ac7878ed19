-- The inlined frames over an address are those of sites that lie inside one another.
use Rattle.std.proofs.Common.{◌≡◌, ◌∙◌, ℕ, ◌+◌, List, [], ◌∷◌, ◌++◌, map, refl, sym, ap, arith, add-one}
use Rattle.std.proofs.lemmas.List.{reverse-append, reverse-reverse}
use Rattle.std.proofs.lemmas.Option.{slice_get-map}
use Rattle.std.specs.Prelude.{Option, Some, Result, Ok, Err, reverse, slice_get}
use Rattle.pdb_records.specs.Addresses.{internal_offset}
use Rattle.pdb_records.specs.LinePrograms.{Lines}
use Rattle.pdb_records.specs.declared.addresses.PdbInternalSectionOffset.{PdbInternalSectionOffset}
use Rattle.pdb_records.specs.declared.error.StreamError.{StreamError}
use Rattle.pdb_records.specs.declared.ids.IdIndex.{IdIndex}
use Rattle.pdb_records.specs.declared.modules.ModuleInfo.{ModuleInfo}
use Rattle.pdb_errors.specs.Outcomes.{and_then, streamed}
use Rattle.pdb_records.specs.Provided.{ProviderInfos}
use Rattle.pdb_functions.specs.FunctionMatches.{found_procedure}
use Rattle.pdb_functions.specs.Procedures.{ModuleProcedure}
use Rattle.pdb_inline.specs.InlineRanges.{inline_ranges}
use Rattle.pdb_inline.specs.InlineStacks.{inline_stack, IsSoleOver}
use Rattle.pdb_inline.specs.declared.inline_ranges.InlineRange.{InlineRange}
use Rattle.pdb_inline.proofs.DirectlyInsideLemmas.{stack_directly_inside}
use Rattle.pdb_inline.proofs.StackEntryLemmas.{entry_of_site}
use Rattle.pdb_inline.proofs.NestingLemmas.{procedure_nested}
use Rattle.pdb_frames.specs.ExtendedInfo.{ExtendedInfo, inlinee_ids, extended_info}
use Rattle.pdb_frames.specs.Frame.{FrameInfo, FramesInfo}
use Rattle.pdb_frames.specs.Lines.{read_whole}
use Rattle.pdb_frames.specs.CodeLocations.{CodeLocation, code_location}
use Rattle.pdb_addr2line.specs.FrameLaws.{sites_of, AreNestedFrames}
use Rattle.pdb_function_info.specs.Frames.{Strings, own_frame, inlined_frame, function_frames}
use Rattle.pdb_addr2line.specs.Lookups.{found_at, frames_at, records_of}
use Rattle.pdb_function_info.specs.NameTexts.{function_name, id_name}
use Rattle.pdb_addr2line.specs.ContextInputs.{ContextInputs, global_functions_of}
use Rattle.pdb_addr2line.proofs.FrameLawLemmas.{map-some, and_then-ok, frames_info_at}
use Rattle.pdb_addr2line.proofs.FrameLevelLemmas.{origin_parts, unless-ok, known_inlinees, known_with}

-- the line program that is known is that of the module
known_program : (info : ModuleInfo) (known : ExtendedInfo) → extended_info info ≡ Ok known
    → info.line_program ≡ Ok known.line_program
known_program info known is = by_stream info.line_program refl is where
  by_stream : (program : Result Lines StreamError) → info.line_program ≡ program
      → and_then (streamed program)
      (λ lines. and_then (read_whole info.inlinees) (λ inlinees. Ok (known_with lines inlinees))) ≡ Ok known
      → info.line_program ≡ Ok known.line_program
  by_stream (Err fault) here is_known = absurd cc
  by_stream (Ok program) here is_known =
      let inlinees = and_then-ok (read_whole info.inlinees) (λ list. Ok (known_with program list)) known is_known in
      let same : known_with program inlinees.0 ≡ known = cc in
      rw (ap (λ (k : ExtendedInfo). k.line_program) same) at here

-- where the code of a procedure comes from: its line program is the module's, and its stack that of the procedure's
-- ranges
origin_of_procedure : (info : ModuleInfo) (m : ℕ) (p : ModuleProcedure) (x : ℕ) (o : CodeLocation)
    → code_location info (found_procedure m p) x ≡ Ok o
    → (info.line_program ≡ Ok o.line_program) ×
    (o.stack ≡ inline_stack (inline_ranges (inlinee_ids info.inlinees.items) (sites_of info p)) x)
origin_of_procedure info m p x o is =
    let parts = origin_parts info (found_procedure m p) x o is in
    let ok = unless-ok _ (Ok (inline_ranges parts.0.inlinees (sites_of info p))) parts.1 parts.3 in
    let all : inline_ranges parts.0.inlinees (sites_of info p) ≡ parts.1 = cc in
    let ids = known_inlinees info parts.0 parts.2 in
    (known_program info parts.0 parts.2 ∙ ap (λ (lines : Lines). Ok lines) parts.4, rw (← parts.5, ← all, ids) refl)

-- counted from outside, after the function's own frame, each frame is that of an entry of the stack
frame_of_entry : (f : InlineRange → FrameInfo) (own : FrameInfo) (stack : List InlineRange) (frames : List FrameInfo)
    (level : ℕ) (frame : FrameInfo) → frames ≡ reverse (map f stack) ++ own ∷ []
    → slice_get (reverse frames) (level + 1) ≡ Some frame
    → (range : InlineRange) × (slice_get stack level ≡ Some range) × (frame ≡ f range)
frame_of_entry f own stack frames level frame is got =
    let turned : reverse frames ≡ own ∷ map f stack =
    rw is (reverse-append (reverse (map f stack)) (own ∷ []) ∙ ap (λ (xs : List FrameInfo). own ∷ xs)
    (reverse-reverse (map f stack))) in
    let there : slice_get (map f stack) level ≡ Some frame = rw (turned, add-one level) at got in
    let found = map-some f (slice_get stack level) frame (sym (slice_get-map f stack level) ∙ there) in
    (found.0, found.1, sym found.2)

-- neighbours among the frames of a procedure are of sites that lie directly inside one another
nested_frames : (strings : Strings) (name_of : IdIndex → Option (List ℕ)) (name : Option (List ℕ)) (info : ModuleInfo)
    (m : ℕ) (p : ModuleProcedure) (x : ℕ) (frames : List FrameInfo) (level : ℕ) (frame inner_frame : FrameInfo)
    → function_frames strings name_of name (Some info) (found_procedure m p) x ≡ Ok frames
    → IsSoleOver (inlinee_ids info.inlinees.items) (sites_of info p) x
    → slice_get (reverse frames) (level + 1) ≡ Some frame → slice_get (reverse frames) (level + 2) ≡ Some inner_frame
    → AreNestedFrames strings name_of info p x level frame inner_frame
nested_frames strings name_of name info m p x frames level frame inner_frame is sole first second =
    let here = and_then-ok (code_location info (found_procedure m p) x) _ frames is in
    let o = here.0 in
    let origin_is = origin_of_procedure info m p x o here.1 in
    let ids = inlinee_ids info.inlinees.items in
    let sites = sites_of info p in
    let f : InlineRange → FrameInfo = λ range. inlined_frame strings o.line_program (name_of range.inlinee) range in
    let own = own_frame strings name o.line_program o.row in
    let all : reverse (map f o.stack) ++ own ∷ [] ≡ frames = cc in
    let next : level + 2 ≡ (level + 1) + 1 = omega arith in
    let one = frame_of_entry f own o.stack frames level frame (sym all) first in
    let two = frame_of_entry f own o.stack frames (level + 1) inner_frame (sym all) (rw next at second) in
    let range_in = sym (ap (λ (list : List InlineRange). slice_get list level) origin_is.1) ∙ one.1 in
    let inner_range_in = sym (ap (λ (list : List InlineRange). slice_get list (level + 1)) origin_is.1) ∙ two.1 in
    let outer = entry_of_site ids sites x level one.0 range_in in
    let inner = entry_of_site ids sites x (level + 1) two.0 inner_range_in in
    let nested = procedure_nested info.symbols.items info.symbols.fault p.symbol_index.0 p.end_symbol_index.0 in
    record {
      outer = outer.0;
      inner = inner.0;
      outer_level = outer.3;
      inner_level = inner.3;
      has_outer = outer.1;
      has_inner = inner.1;
      of_outer = record {
        range = one.0;
        of_site = outer.2;
        over = rw outer.3 outer.4;
        program = o.line_program;
        read = origin_is.0;
        shown = one.2;
      };
      of_inner = record {
        range = two.0;
        of_site = inner.2;
        over = rw inner.3 inner.4;
        program = o.line_program;
        read = origin_is.0;
        shown = two.2;
      };
      directly = stack_directly_inside ids sites x level outer.0 inner.0 one.0 two.0 nested sole outer.1 inner.1
          range_in inner_range_in outer.2 inner.2;
    }

-- the same for the frames over an address
pub frames_nested : {P : Type 0} (infos : P → ProviderInfos) (s : ContextInputs P) (address : ℕ)
    (section_offset : PdbInternalSectionOffset)
    (m : ℕ) (p : ModuleProcedure) (info : ModuleInfo) (frames_info : FramesInfo) (level : ℕ)
    (frame inner_frame : FrameInfo)
    → internal_offset s.address_map (record { 0 = address }) ≡ Some section_offset
    → found_at infos s address ≡ Some (found_procedure m p)
    → records_of infos s (found_procedure m p) ≡ Some info → frames_at infos s address ≡ Ok (Some frames_info)
    → IsSoleOver (inlinee_ids info.inlinees.items) (sites_of info p) section_offset.offset
    → slice_get (reverse frames_info.frames) (level + 1) ≡ Some frame
    → slice_get (reverse frames_info.frames) (level + 2) ≡ Some inner_frame
    → AreNestedFrames s.strings (id_name infos s.type_inputs m) info p section_offset.offset level frame inner_frame
frames_nested infos s address section_offset m p info frames_info level frame inner_frame lies over records answered
    sole first second =
    let is = frames_info_at infos s address section_offset (found_procedure m p) frames_info lies over answered in
    nested_frames s.strings (id_name infos s.type_inputs m)
    (function_name infos s.type_inputs (global_functions_of s) (found_procedure m p))
    info m p section_offset.offset frames_info.frames level frame inner_frame (rw records at is.frames) sole first
    second
