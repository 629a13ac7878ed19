-- The streams of records over which a context is made.
use Rattle.std.proofs.Common.{◌≡◌, ◌∙◌, ℕ, List, [], refl, ap, sym}
use Rattle.std.specs.Prelude.{Option, Some, None, Result, Ok, Err}
use Rattle.std.specs.Result.{result_ok, result_unwrap_or}
use Rattle.pdb_records.specs.Records.{Records}
use Rattle.pdb_records.specs.declared.addresses.AddressRange.{AddressRange}
use Rattle.pdb_records.specs.declared.addresses.ImageSectionHeader.{ImageSectionHeader}
use Rattle.pdb_records.specs.declared.debug_information.DebugInformation.{DebugInformation}
use Rattle.pdb_records.specs.declared.symbols.SymbolTable.{SymbolTable}
use Rattle.pdb_errors.specs.declared.error.Error.{Error}
use Rattle.pdb_errors.specs.Outcomes.{and_then, streamed, unless}
use Rattle.pdb_types.specs.declared.flags.TypeFormatterFlags.{TypeFormatterFlags}
use Rattle.pdb_types.specs.TypeInputs.{TypeInputs}
use Rattle.pdb_functions.specs.MergedContributions.{merged_contributions}
use Rattle.pdb_functions.specs.GlobalFunctions.{global_functions}
use Rattle.pdb_functions.specs.declared.merged_contributions.ModuleSectionContribution.{ModuleSectionContribution}
use Rattle.pdb_addr2line.specs.ContextData.{context_of, context_over, formatter_of, sections_read}
use Rattle.pdb_addr2line.specs.ContextInputs.{ContextInputs, searched_contributions}
use Rattle.pdb_change_points.specs.ChangePoints.{change_points, program_points}

-- what two steps answered was answered by each
then_ok : {A B E : Type 0} (first : Result A E) (next : A → Result B E) (answer : B)
    → and_then first next ≡ Ok answer → (a : A) × (first ≡ Ok a) × (next a ≡ Ok answer)
then_ok (Ok a) next answer e = (a, refl, e)
then_ok (Err error) next answer e = absurd cc

-- what is answered where nothing refuses
unless_ok : {A : Type 0} (refusal : Option Error) (result : Result A Error) (answer : A)
    → unless refusal result ≡ Ok answer → result ≡ Ok answer
unless_ok None result answer e = e
unless_ok (Some error) result answer e = absurd cc

-- what was answered is one thing
ok_same : {A E : Type 0} (a b : A) → ◌≡◌ {A = Result A E} (Ok a) (Ok b) → a ≡ b
ok_same {A = A} {E = E} a b e = ap (λ (r : Result A E). result_unwrap_or r a) e

-- a context over records with these contents
abbrev inputs_with : Records → TypeInputs Records → List ImageSectionHeader → List AddressRange → SymbolTable
    → DebugInformation → ContextInputs Records
inputs_with r formatter sections ranges symbols debug = record {
  provider = r;
  sections = sections;
  address_map = ranges;
  global_symbols = symbols;
  strings = result_ok r.string_table;
  debug_information = debug;
  type_inputs = formatter;
}

-- the contents of streams that a context over records was made of, and the merged contributions
pub record Front (r : Records) (inputs : ContextInputs Records) : Type 0 where
  pub formatter : TypeInputs Records
  pub debug : DebugInformation
  pub debug_is : streamed r.debug_information ≡ Ok debug
  pub symbols : SymbolTable
  pub symbols_is : streamed r.global_symbols ≡ Ok symbols
  pub ranges : List AddressRange
  pub ranges_is : streamed r.address_map ≡ Ok ranges
  pub sections : List ImageSectionHeader
  pub sections_is : sections_read r ≡ Ok sections
  pub merged : List ModuleSectionContribution
  pub merged_is : merged_contributions sections debug ≡ Ok merged
  pub is : inputs_with r formatter sections ranges symbols debug ≡ inputs

-- a context was made of such contents
front_over : (r : Records) (formatter : TypeInputs Records) (inputs : ContextInputs Records)
    → context_over r formatter ≡ Ok inputs → Front r inputs
front_over r formatter inputs e =
    let (debug, debug_is, over_debug) = then_ok (streamed r.debug_information) _ inputs e in
    let (symbols, symbols_is, over_symbols) = then_ok (streamed r.global_symbols) _ inputs over_debug in
    let (ranges, ranges_is, over_ranges) = then_ok (streamed r.address_map) _ inputs over_symbols in
    let (sections, sections_is, over_sections) = then_ok (sections_read r) _ inputs over_ranges in
    let (merged, merged_is, last) = then_ok (searched_contributions sections symbols debug) _ inputs over_sections in
    record {
      formatter = formatter;
      debug = debug;
      debug_is = debug_is;
      symbols = symbols;
      symbols_is = symbols_is;
      ranges = ranges;
      ranges_is = ranges_is;
      sections = sections;
      sections_is = sections_is;
      merged = merged;
      merged_is = unless_ok _ (merged_contributions sections debug) merged merged_is;
      is = ok_same (inputs_with r formatter sections ranges symbols debug) inputs last;
    }

-- so was the context of records
pub front_of : (flags : TypeFormatterFlags) (r : Records) (inputs : ContextInputs Records)
    → context_of flags r ≡ Ok inputs → Front r inputs
front_of flags r inputs e =
    let (formatter, formatter_is, over) = then_ok (formatter_of flags r) (context_over r) inputs e in
    front_over r formatter inputs over

-- the change points of contents of streams
abbrev pub points_of_contents : Records → List ImageSectionHeader → List AddressRange → SymbolTable → DebugInformation
    → List ℕ
points_of_contents r sections ranges symbols debug =
    program_points ranges (result_unwrap_or (merged_contributions sections debug) [])
    (global_functions sections symbols.symbols.items debug) r.module_infos

-- the change points of a context are those of the contents of its records' streams
pub change_points_made : (r : Records) (inputs : ContextInputs Records) → Front r inputs
    → (sections : List ImageSectionHeader) (ranges : List AddressRange) (symbols : SymbolTable)
    (debug : DebugInformation) → sections_read r ≡ Ok sections → streamed r.address_map ≡ Ok ranges
    → streamed r.global_symbols ≡ Ok symbols → streamed r.debug_information ≡ Ok debug
    → points_of_contents r sections ranges symbols debug ≡ change_points inputs
change_points_made r inputs f sections ranges symbols debug sections_is ranges_is symbols_is debug_is =
    let s : sections ≡ f.sections = ok_same sections f.sections (sym sections_is ∙ f.sections_is) in
    let m : ranges ≡ f.ranges = ok_same ranges f.ranges (sym ranges_is ∙ f.ranges_is) in
    let g : symbols ≡ f.symbols = ok_same symbols f.symbols (sym symbols_is ∙ f.symbols_is) in
    let d : debug ≡ f.debug = ok_same debug f.debug (sym debug_is ∙ f.debug_is) in
    ap (λ (x : List ImageSectionHeader). points_of_contents r x ranges symbols debug) s
    ∙ (ap (λ (x : List AddressRange). points_of_contents r f.sections x symbols debug) m
    ∙ (ap (λ (x : SymbolTable). points_of_contents r f.sections f.ranges x debug) g
    ∙ (ap (λ (x : DebugInformation). points_of_contents r f.sections f.ranges f.symbols x) d
    ∙ ap change_points f.is)))

-- the contributions that a context was made of are merged, and not refused
pub never_refused : (r : Records) (inputs : ContextInputs Records) → Front r inputs
    → (sections : List ImageSectionHeader) (debug : DebugInformation) → sections_read r ≡ Ok sections
    → streamed r.debug_information ≡ Ok debug → (e : Error) → merged_contributions sections debug ≡ Err e → ⊥
never_refused r inputs f sections debug sections_is debug_is e refused =
    let s : sections ≡ f.sections = ok_same sections f.sections (sym sections_is ∙ f.sections_is) in
    let d : debug ≡ f.debug = ok_same debug f.debug (sym debug_is ∙ f.debug_is) in
    different (sym refused ∙ (ap (λ (x : List ImageSectionHeader). merged_contributions x debug) s
    ∙ (ap (λ (x : DebugInformation). merged_contributions f.sections x) d ∙ f.merged_is)))
  where
    different : {A : Type 0} {a : A} → ◌≡◌ {A = Result A Error} (Err e) (Ok a) → ⊥
    different same = cc
