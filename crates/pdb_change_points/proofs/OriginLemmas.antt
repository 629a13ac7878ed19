-- Where the code at two section offsets of one section comes from, of which no change point lies between.
use Rattle.std.proofs.Common.{◌≡◌, ℕ, ◌-◌, ◌^◌, ◌<◌, ◌≤◌, true, List, [], ◌∷◌, ◌++◌}
use Rattle.std.proofs.Common.{refl, ap, ◌∙◌, subst}
use Rattle.std.specs.Prelude.{◌==◌, nat_le, ⊤, Option, Some, None, Result, Ok, Err, IfOk, IfSome, find}
use Rattle.std.specs.Prelude.{option_map}
use Rattle.std.specs.List.{AllByRecursion}
use Rattle.std.specs.Result.{result_unwrap_or}
use Rattle.std.proofs.lemmas.Bool.{and_parts, eqb-true}
use Rattle.pdb_records.specs.Addresses.{numbered_section, is_same_section_offset}
use Rattle.pdb_records.specs.LinePrograms.{Lines}
use Rattle.pdb_records.specs.declared.addresses.AddressRange.{AddressRange}
use Rattle.pdb_records.specs.declared.addresses.PdbInternalSectionOffset.{PdbInternalSectionOffset}
use Rattle.pdb_records.specs.declared.error.Error.TheVariants.{Stream}
use Rattle.pdb_records.specs.declared.error.StreamError.{StreamError}
use Rattle.pdb_records.specs.declared.ids.IdIndex.{IdIndex}
use Rattle.pdb_records.specs.declared.lines.LineInfo.{LineInfo}
use Rattle.pdb_records.specs.declared.lines.SymbolLines.{SymbolLines}
use Rattle.pdb_records.specs.declared.modules.ModuleInfo.{ModuleInfo}
use Rattle.pdb_errors.specs.Outcomes.{and_then, unless}
use Rattle.pdb_errors.specs.declared.error.Error.{Error}
use Rattle.pdb_errors.specs.declared.error.Error.TheVariants.{PdbError}
use Rattle.pdb_functions.specs.FunctionMatches.{FunctionMatch, found_procedure, found_global, function_start}
use Rattle.pdb_inline.specs.InlineRanges.{procedure_inline_ranges}
use Rattle.pdb_inline.specs.InlineStacks.{inline_stack}
use Rattle.pdb_inline.specs.declared.inline_ranges.InlineRange.{InlineRange}
use Rattle.pdb_frames.specs.ExtendedInfo.{ExtendedInfo, extended_info}
use Rattle.pdb_frames.specs.Lines.{row_over, function_row}
use Rattle.pdb_frames.specs.CodeLocations.{CodeLocation, code_location, function_ranges}
use Rattle.pdb_change_points.specs.ModulePoints.{ranges_or_none}
use Rattle.pdb_change_points.specs.Points.{point_at, row_points, entry_points, range_points, IsOutside}
use Rattle.pdb_change_points.proofs.ListLemmas.{all_parts, pick_same, find_passes, stack_same, IsOverBoth}
use Rattle.pdb_change_points.proofs.SectionLemmas.{le_same, lt_same}

-- the inline ranges of a function, if it is a procedure, start and end outside of two addresses
abbrev pub AreRangesOutside : ℕ → ℕ → List AddressRange → ℕ → List IdIndex → ModuleInfo → FunctionMatch → Type 0
AreRangesOutside x y sections n inlinees info (found_procedure m p) =
    AllByRecursion (IsOutside x y) (range_points sections n (ranges_or_none inlinees info p))
AreRangesOutside x y sections n inlinees info (found_global m f) = ⊤

-- two addresses in the range of a section
module _ (sections : List AddressRange) (n : ℕ) (range : AddressRange)
    (is : numbered_section n sections ≡ Some range) (x y : ℕ) (from : range.virtual_address ≤ x) (up : x ≤ y)
    (fits : y < 2 ^ 32) where
  -- each row is at or below both or neither
  rows_same : (rows : List LineInfo) → AllByRecursion (IsOutside x y) (row_points sections n rows)
      → AllByRecursion (λ row. nat_le row.offset (x - range.virtual_address)
      ≡ nat_le row.offset (y - range.virtual_address)) rows
  rows_same [] all = tt
  rows_same (row ∷ rows) all =
      let parts = all_parts (IsOutside x y) (point_at sections n row.offset) (row_points sections n rows) all in
      (le_same sections n range is x y from up fits row.offset parts.0, rows_same rows parts.1)

  -- each inline range lies over both or neither
  ranges_same : (ranges : List InlineRange) → AllByRecursion (IsOutside x y) (range_points sections n ranges)
      → AllByRecursion (IsOverBoth (x - range.virtual_address) (y - range.virtual_address)) ranges
  ranges_same [] all = tt
  ranges_same (r ∷ ranges) all =
      let parts = all_parts (IsOutside x y)
      (point_at sections n r.start_offset ++ point_at sections n r.end_offset) (range_points sections n ranges) all in
      let own = all_parts (IsOutside x y) (point_at sections n r.start_offset) (point_at sections n r.end_offset)
      parts.0 in
      let le = le_same sections n range is x y from up fits r.start_offset own.0 in
      let lt = lt_same sections n range is x y from up fits r.end_offset own.1 in
      (cc (le, lt), ranges_same ranges parts.1)

  -- of the entries at a section offset the rows lie outside of both, since the section is the same
  entries_outside : (start : PdbInternalSectionOffset) → start.section ≡ n → (entries : List SymbolLines)
      → AllByRecursion (IsOutside x y) (entry_points sections entries)
      → AllByRecursion (λ entry. is_same_section_offset entry.offset start ≡ true
      → AllByRecursion (IsOutside x y) (row_points sections n entry.lines.items)) entries
  entries_outside start here [] all = tt
  entries_outside start here (entry ∷ entries) all =
      let parts = all_parts (IsOutside x y) (row_points sections entry.offset.section entry.lines.items)
      (entry_points sections entries) all in (
        (λ passes. let e : entry.offset.section ≡ n = eqb-true entry.offset.section start.section
            (and_parts (entry.offset.section == start.section) (entry.offset.offset == start.offset) passes).0 ∙ here in
            subst (λ s. AllByRecursion (IsOutside x y) (row_points sections s entry.lines.items)) e parts.0),
        entries_outside start here entries parts.1,
      )

  -- the row over both is the same
  row_same : (program : Lines) (start : PdbInternalSectionOffset) → start.section ≡ n
      → AllByRecursion (IsOutside x y) (entry_points sections program.entries)
      → function_row program start (x - range.virtual_address) ≡ function_row program start (y - range.virtual_address)
  row_same program start here all =
      by_entry (find (λ entry. is_same_section_offset entry.offset start) program.entries) refl
      (find_passes (λ entry. AllByRecursion (IsOutside x y) (row_points sections n entry.lines.items))
      (λ entry. is_same_section_offset entry.offset start) program.entries
      (entries_outside start here program.entries all))
    where
      by_rows : (rows : List LineInfo) → AllByRecursion (IsOutside x y) (row_points sections n rows)
          → (fault : Option StreamError)
          → and_then (unless (option_map (λ f. PdbError (Stream f)) fault) (Ok rows))
          (λ whole. Ok (row_over whole (x - range.virtual_address)))
          ≡ and_then (unless (option_map (λ f. PdbError (Stream f)) fault) (Ok rows))
          (λ whole. Ok (row_over whole (y - range.virtual_address)))
      by_rows rows outside (Some fault) = refl
      by_rows rows outside None =
          ap (λ (row : Option LineInfo). Ok row)
          (pick_same (λ row. nat_le row.offset (x - range.virtual_address))
          (λ row. nat_le row.offset (y - range.virtual_address)) (λ row. row.offset) rows (rows_same rows outside))

      by_entry : (found : Option SymbolLines)
          → find (λ entry. is_same_section_offset entry.offset start) program.entries ≡ found
          → IfSome found (λ entry. AllByRecursion (IsOutside x y) (row_points sections n entry.lines.items))
          → function_row program start (x - range.virtual_address)
          ≡ function_row program start (y - range.virtual_address)
      by_entry None found_is outside = rw found_is refl
      by_entry (Some entry) found_is outside = rw found_is (by_rows entry.lines.items outside entry.lines.fault)

  -- the origin of code with this row and these inlined bodies
  made : Lines → Option LineInfo → List InlineRange → Result CodeLocation Error
  made program row stack = Ok (record { line_program = program; row = row; stack = stack })

  -- where the code at both comes from is the same
  pub origin_same : (info : ModuleInfo) (found : FunctionMatch) → (function_start found).section ≡ n
      → IfOk (extended_info info) (λ known. AllByRecursion (IsOutside x y)
      (entry_points sections known.line_program.entries)
      × AreRangesOutside x y sections n known.inlinees info found)
      → code_location info found (x - range.virtual_address) ≡ code_location info found (y - range.virtual_address)
  unfolding made
  origin_same info found here outside = by_known (extended_info info) outside where
    by_ranges : (program : Lines) (row : Option LineInfo) (ranges : Result (List InlineRange) Error)
        → AllByRecursion (IsOutside x y) (range_points sections n (result_unwrap_or ranges []))
        → and_then ranges (λ r. made program row (inline_stack r (x - range.virtual_address)))
        ≡ and_then ranges (λ r. made program row (inline_stack r (y - range.virtual_address)))
    by_ranges program row (Err e) all = refl
    by_ranges program row (Ok r) all =
        ap (made program row) (stack_same r (x - range.virtual_address) (y - range.virtual_address)
        (ranges_same r all))

    by_kind : (known : ExtendedInfo) (row : Option LineInfo) (f : FunctionMatch)
        → AreRangesOutside x y sections n known.inlinees info f
        → and_then (function_ranges known.inlinees info f)
        (λ r. made known.line_program row (inline_stack r (x - range.virtual_address)))
        ≡ and_then (function_ranges known.inlinees info f)
        (λ r. made known.line_program row (inline_stack r (y - range.virtual_address)))
    by_kind known row (found_global m g) all = refl
    by_kind known row (found_procedure m p) all =
        by_ranges known.line_program row
        (procedure_inline_ranges known.inlinees info p.symbol_index.0 p.end_symbol_index.0) all

    by_row : (known : ExtendedInfo) → AreRangesOutside x y sections n known.inlinees info found
        → (row : Result (Option LineInfo) Error)
        → and_then row (λ r. and_then (function_ranges known.inlinees info found)
        (λ ranges. made known.line_program r (inline_stack ranges (x - range.virtual_address))))
        ≡ and_then row (λ r. and_then (function_ranges known.inlinees info found)
        (λ ranges. made known.line_program r (inline_stack ranges (y - range.virtual_address))))
    by_row known all (Err e) = refl
    by_row known all (Ok r) = by_kind known r found all

    by_known : (known : Result ExtendedInfo Error)
        → IfOk known (λ k. AllByRecursion (IsOutside x y) (entry_points sections k.line_program.entries)
        × AreRangesOutside x y sections n k.inlinees info found)
        → and_then known (λ k. and_then (function_row k.line_program (function_start found)
        (x - range.virtual_address)) (λ r. and_then (function_ranges k.inlinees info found)
        (λ ranges. made k.line_program r (inline_stack ranges (x - range.virtual_address)))))
        ≡ and_then known (λ k. and_then (function_row k.line_program (function_start found)
        (y - range.virtual_address)) (λ r. and_then (function_ranges k.inlinees info found)
        (λ ranges. made k.line_program r (inline_stack ranges (y - range.virtual_address)))))
    by_known (Err e) all = refl
    by_known (Ok k) all =
        ap (λ (row : Result (Option LineInfo) Error). and_then row (λ r. and_then
        (function_ranges k.inlinees info found)
        (λ ranges. made k.line_program r (inline_stack ranges (x - range.virtual_address)))))
        (row_same k.line_program (function_start found) here all.0)
        ∙ by_row k all.1 (function_row k.line_program (function_start found) (y - range.virtual_address))
