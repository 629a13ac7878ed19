-- What lies over two section offsets of one section, of which no change point lies between.
use Rattle.std.proofs.Common.{◌≡◌, ℕ, ◌+◌, ◌-◌, ◌^◌, ◌<◌, ◌≤◌, Bool, true, false, List, [], ◌∷◌, ◌++◌}
use Rattle.std.proofs.Common.{refl, ap, ◌∙◌, subst, sym}
use Rattle.std.specs.Prelude.{◌&&◌, ◌==◌, nat_le, nat_lt, Option, Some, None, find}
use Rattle.std.specs.Prelude.{option_and_then}
use Rattle.std.specs.List.{AllByRecursion}
use Rattle.pdb_records.specs.Addresses.{numbered_section}
use Rattle.pdb_records.specs.declared.addresses.AddressRange.{AddressRange}
use Rattle.pdb_records.specs.declared.addresses.PdbInternalSectionOffset.{PdbInternalSectionOffset}
use Rattle.pdb_records.specs.declared.debug_information.Module.{Module}
use Rattle.pdb_records.specs.Provided.{ProviderInfos}
use Rattle.pdb_tables.specs.Pick.{pick}
use Rattle.pdb_functions.specs.declared.merged_contributions.ModuleSectionContribution.{ModuleSectionContribution}
use Rattle.pdb_functions.specs.FunctionMatches.{found_or_global, function_over, function_in_contribution}
use Rattle.pdb_functions.specs.FunctionMatches.{procedures_of_module}
use Rattle.pdb_functions.specs.GlobalFunctions.{GlobalFunction}
use Rattle.pdb_functions.specs.Procedures.{ModuleProcedure}
use Rattle.pdb_functions.specs.Spans.{contribution_covers, procedure_covers, global_function_covers}
use Rattle.pdb_change_points.specs.Points.{point_at, contribution_points, global_points, procedure_points, IsOutside}
use Rattle.pdb_change_points.proofs.ListLemmas.{all_parts, find_same, pick_same}
use Rattle.pdb_change_points.proofs.SectionLemmas.{in_section, le_same, lt_same}

-- what comes of three tests of which the first is of a section's number
in_section_span : (m n : ℕ) (a b c d : Bool) → (m ≡ n → a ≡ c) → (m ≡ n → b ≡ d)
    → (((m == n) && a) && b) ≡ (((m == n) && c) && d)
in_section_span m n a b c d le lt =
    grouped (m == n) a b ∙ (in_section m n (a && b) (c && d) (λ e. both (le e) (lt e)) ∙ sym (grouped (m == n) c d))
  where
    grouped : (s t u : Bool) → ((s && t) && u) ≡ (s && (t && u))
    grouped true t u = refl
    grouped false t u = refl

    both : a ≡ c → b ≡ d → (a && b) ≡ (c && d)
    both p q = cc

-- two addresses in the range of a section
module _ (sections : List AddressRange) (n : ℕ) (range : AddressRange)
    (is : numbered_section n sections ≡ Some range) (x y : ℕ) (from : range.virtual_address ≤ x) (up : x ≤ y)
    (fits : y < 2 ^ 32) where
  -- the first of them as a section offset
  abbrev pub place : PdbInternalSectionOffset
  place = record { section = n; offset = x - range.virtual_address }

  -- the second of them
  abbrev pub later : PdbInternalSectionOffset
  later = record { section = n; offset = y - range.virtual_address }

  -- what starts and ends in a section lies over both or neither
  span_same : (m start end : ℕ)
      → AllByRecursion (IsOutside x y) (point_at sections m start ++ point_at sections m end)
      → (((m == n) && nat_le start place.offset) && nat_lt place.offset end)
      ≡ (((m == n) && nat_le start later.offset) && nat_lt later.offset end)
  span_same m start end all =
      let parts = all_parts (IsOutside x y) (point_at sections m start) (point_at sections m end) all in
      in_section_span m n (nat_le start place.offset) (nat_lt place.offset end)
      (nat_le start later.offset) (nat_lt later.offset end)
      (λ e. le_same sections n range is x y from up fits start
      (subst (λ s. AllByRecursion (IsOutside x y) (point_at sections s start)) e parts.0))
      (λ e. lt_same sections n range is x y from up fits end
      (subst (λ s. AllByRecursion (IsOutside x y) (point_at sections s end)) e parts.1))

  -- each contribution lies over both or neither
  contributions_same : (cs : List ModuleSectionContribution)
      → AllByRecursion (IsOutside x y) (contribution_points sections cs)
      → AllByRecursion (λ c. contribution_covers place c ≡ contribution_covers later c) cs
  contributions_same [] all = tt
  contributions_same (c ∷ cs) all =
      let parts = all_parts (IsOutside x y)
      (point_at sections c.section_index c.start_offset ++ point_at sections c.section_index c.end_offset)
      (contribution_points sections cs) all in
      (span_same c.section_index c.start_offset c.end_offset parts.0, contributions_same cs parts.1)

  -- the first contribution over both is the same
  pub covering_same : (contributions : List ModuleSectionContribution)
      → AllByRecursion (IsOutside x y) (contribution_points sections contributions)
      → find (contribution_covers place) contributions ≡ find (contribution_covers later) contributions
  covering_same contributions spans =
      find_same (contribution_covers place) (contribution_covers later) contributions
      (contributions_same contributions spans)

  -- each procedure lies over both or neither
  procedures_same : (ps : List ModuleProcedure) → AllByRecursion (IsOutside x y) (procedure_points sections ps)
      → AllByRecursion (λ p. procedure_covers place p ≡ procedure_covers later p) ps
  procedures_same [] all = tt
  procedures_same (p ∷ ps) all =
      let parts = all_parts (IsOutside x y)
      (point_at sections p.offset.section p.offset.offset
      ++ point_at sections p.offset.section (p.offset.offset + p.len))
      (procedure_points sections ps) all in
      (span_same p.offset.section p.offset.offset (p.offset.offset + p.len) parts.0, procedures_same ps parts.1)

  -- so may each global function
  globals_same : (fs : List GlobalFunction) → AllByRecursion (IsOutside x y) (global_points sections fs)
      → AllByRecursion (λ f. global_function_covers place f ≡ global_function_covers later f) fs
  globals_same [] all = tt
  globals_same (f ∷ fs) all =
      let parts = all_parts (IsOutside x y) (point_at sections f.start.section f.start.offset)
      (global_points sections fs) all in (
        in_section f.start.section n (nat_le f.start.offset place.offset) (nat_le f.start.offset later.offset)
            (λ e. le_same sections n range is x y from up fits f.start.offset
            (subst (λ s. AllByRecursion (IsOutside x y) (point_at sections s f.start.offset)) e parts.0)),
        globals_same fs parts.1,
      )

  -- what lies over both is the same
  pub over_same : (infos : ProviderInfos) (modules : List Module) (contributions : List ModuleSectionContribution)
      (globals : List GlobalFunction) → AllByRecursion (IsOutside x y) (contribution_points sections contributions)
      → AllByRecursion (IsOutside x y) (global_points sections globals)
      → ((index : ℕ) → AllByRecursion (IsOutside x y)
      (procedure_points sections (procedures_of_module infos modules index)))
      → function_over infos modules contributions globals place
      ≡ function_over infos modules contributions globals later
  over_same infos modules contributions globals spans starts procedures =
      ap (option_and_then (function_in_contribution infos modules globals place))
      (covering_same contributions spans)
      ∙ by_contribution (find (contribution_covers later) contributions)
    where
      by_contribution : (c : Option ModuleSectionContribution)
          → option_and_then (function_in_contribution infos modules globals place) c
          ≡ option_and_then (function_in_contribution infos modules globals later) c
      by_contribution None = refl
      by_contribution (Some c) =
          let listed = procedures_of_module infos modules c.module_index in
          ap (λ (f : Option GlobalFunction). found_or_global c f
          (pick (procedure_covers place) (λ p. p.offset.offset) listed))
          (pick_same (global_function_covers place) (global_function_covers later) (λ f. f.start.offset) globals
          (globals_same globals starts))
          ∙ ap (λ (p : Option ModuleProcedure). found_or_global c
          (pick (global_function_covers later) (λ f. f.start.offset) globals) p)
          (pick_same (procedure_covers place) (procedure_covers later) (λ p. p.offset.offset) listed
          (procedures_same listed (procedures c.module_index)))
