-- The contexts that records have.
use Rattle.std.proofs.Common.{◌≡◌, ◌∙◌, ℕ, List, refl, ap, sym}
use Rattle.std.specs.Prelude.{Option, Some, None, Result, Ok, Err}
use Rattle.std.specs.Result.{result_ok, result_unwrap_or}
use Rattle.pdb_records.specs.Records.{Records}
use Rattle.pdb_records.specs.declared.addresses.AddressRange.{AddressRange}
use Rattle.pdb_records.specs.declared.addresses.ImageSectionHeader.{ImageSectionHeader}
use Rattle.pdb_records.specs.declared.debug_information.DebugInformation.{DebugInformation}
use Rattle.pdb_records.specs.declared.error.StreamError.{StreamError}
use Rattle.pdb_records.specs.declared.ids.IdData.{IdData}
use Rattle.pdb_records.specs.declared.ids.IdIndex.{IdIndex}
use Rattle.pdb_records.specs.declared.symbols.SymbolTable.{SymbolTable}
use Rattle.pdb_records.specs.declared.types.ItemInformation.{ItemInformation}
use Rattle.pdb_records.specs.declared.types.TypeData.{TypeData}
use Rattle.pdb_records.specs.declared.types.TypeIndex.{TypeIndex}
use Rattle.pdb_errors.specs.declared.error.Error.{Error}
use Rattle.pdb_errors.specs.Outcomes.{and_then, streamed, unless}
use Rattle.pdb_types.specs.declared.flags.TypeFormatterFlags.{TypeFormatterFlags}
use Rattle.pdb_types.specs.TypeInputs.{TypeInputs, program_pointer_size}
use Rattle.pdb_addr2line.specs.ContextData.{context_of, context_over, formatter_of, formatter_refusal, sections_read}
use Rattle.pdb_addr2line.specs.ContextInputs.{ContextInputs, searched_contributions}

-- what two steps answered was answered by each
then_ok : {A B E : Type 0} (first : Result A E) (next : A → Result B E) (answer : B)
    → and_then first next ≡ Ok answer → (a : A) × (first ≡ Ok a) × (next a ≡ Ok answer)
then_ok (Ok a) next answer e = (a, refl, e)
then_ok (Err error) next answer e = absurd cc

-- a stream that was read has its content
streamed_ok : {A : Type 0} (stream : Result A StreamError) (content : A) → streamed stream ≡ Ok content
    → stream ≡ Ok content
streamed_ok (Ok a) content e = cc (e)
streamed_ok (Err fault) content e = absurd cc

-- what is answered where nothing refuses
unless_ok : {A : Type 0} (refusal : Option Error) (result : Result A Error) (answer : A)
    → unless refusal result ≡ Ok answer → result ≡ Ok answer
unless_ok None result answer e = e
unless_ok (Some error) result answer e = absurd cc

-- what a context over records is made of
pub record Made (r : Records) : Type 0 where
  pub debug : DebugInformation
  pub debug_is : r.debug_information ≡ Ok debug
  pub types : ItemInformation TypeIndex TypeData
  pub types_is : r.type_information ≡ Ok types
  pub ids : ItemInformation IdIndex IdData
  pub ids_is : r.id_information ≡ Ok ids
  pub pointer : ℕ
  pub pointer_is : program_pointer_size debug.machine_type ≡ Ok pointer
  pub symbols : SymbolTable
  pub symbols_is : r.global_symbols ≡ Ok symbols
  pub ranges : List AddressRange
  pub ranges_is : r.address_map ≡ Ok ranges
  pub sections : List ImageSectionHeader
  pub sections_is : sections_read r ≡ Ok sections

-- the type inputs that are made of these
abbrev pub formatter_made : TypeFormatterFlags → (r : Records) → Made r → TypeInputs Records
formatter_made flags r m = record {
  provider = r;
  modules = m.debug.modules.items;
  strings = result_ok r.string_table;
  pointer_size = m.pointer;
  types = m.types.items;
  ids = m.ids.items;
  flags = flags;
}

-- the context that is made of these
abbrev pub context_made : TypeFormatterFlags → (r : Records) → Made r → ContextInputs Records
context_made flags r m = record {
  provider = r;
  sections = m.sections;
  address_map = m.ranges;
  global_symbols = m.symbols;
  strings = result_ok r.string_table;
  debug_information = m.debug;
  type_inputs = formatter_made flags r m;
}

-- what was answered is one thing
ok_same : {A E : Type 0} (a b : A) → ◌≡◌ {A = Result A E} (Ok a) (Ok b) → a ≡ b
ok_same {A = A} {E = E} a b e = ap (λ (r : Result A E). result_unwrap_or r a) e

-- type inputs with these lists
abbrev formatter_with : TypeFormatterFlags → Records → DebugInformation → ItemInformation TypeIndex TypeData
    → ItemInformation IdIndex IdData → ℕ → TypeInputs Records
formatter_with flags r debug types ids pointer = record {
  provider = r;
  modules = debug.modules.items;
  strings = result_ok r.string_table;
  pointer_size = pointer;
  types = types.items;
  ids = ids.items;
  flags = flags;
}

-- a context with these type inputs
abbrev inputs_with : Records → List ImageSectionHeader → List AddressRange → SymbolTable → DebugInformation
    → TypeInputs Records → ContextInputs Records
inputs_with r sections ranges symbols debug formatter = record {
  provider = r;
  sections = sections;
  address_map = ranges;
  global_symbols = symbols;
  strings = result_ok r.string_table;
  debug_information = debug;
  type_inputs = formatter;
}

-- what type inputs of records are made of
record FormatterParts (flags : TypeFormatterFlags) (r : Records) (formatter : TypeInputs Records) : Type 0 where
  debug : DebugInformation
  debug_is : r.debug_information ≡ Ok debug
  types : ItemInformation TypeIndex TypeData
  types_is : r.type_information ≡ Ok types
  ids : ItemInformation IdIndex IdData
  ids_is : r.id_information ≡ Ok ids
  pointer : ℕ
  pointer_is : program_pointer_size debug.machine_type ≡ Ok pointer
  is : formatter_with flags r debug types ids pointer ≡ formatter

-- type inputs of records are made of these
formatter_parts : (flags : TypeFormatterFlags) (r : Records) (formatter : TypeInputs Records)
    → formatter_of flags r ≡ Ok formatter → FormatterParts flags r formatter
formatter_parts flags r formatter e =
    let (debug, debug_is, after_debug) = then_ok (streamed r.debug_information) _ formatter e in
    let (types, types_is, after_types) = then_ok (streamed r.type_information) _ formatter after_debug in
    let (ids, ids_is, after_ids) = then_ok (streamed r.id_information) _ formatter after_types in
    let (pointer, pointer_is, made) = then_ok (program_pointer_size debug.machine_type) _ formatter
    (unless_ok (formatter_refusal debug) _ formatter after_ids) in
    record {
      debug = debug;
      debug_is = streamed_ok r.debug_information debug debug_is;
      types = types;
      types_is = streamed_ok r.type_information types types_is;
      ids = ids;
      ids_is = streamed_ok r.id_information ids ids_is;
      pointer = pointer;
      pointer_is = pointer_is;
      is = ok_same (formatter_with flags r debug types ids pointer) formatter made;
    }

-- what a context of records is made of beside its type inputs
record ContextParts (r : Records) (formatter : TypeInputs Records) (inputs : ContextInputs Records) : Type 0 where
  debug : DebugInformation
  debug_is : r.debug_information ≡ Ok debug
  symbols : SymbolTable
  symbols_is : r.global_symbols ≡ Ok symbols
  ranges : List AddressRange
  ranges_is : r.address_map ≡ Ok ranges
  sections : List ImageSectionHeader
  sections_is : sections_read r ≡ Ok sections
  is : inputs_with r sections ranges symbols debug formatter ≡ inputs

-- a context of records is made of these
context_parts : (r : Records) (formatter : TypeInputs Records) (inputs : ContextInputs Records)
    → context_over r formatter ≡ Ok inputs → ContextParts r formatter inputs
context_parts r formatter inputs e =
    let (debug, debug_is, over_debug) = then_ok (streamed r.debug_information) _ inputs e in
    let (symbols, symbols_is, over_symbols) = then_ok (streamed r.global_symbols) _ inputs over_debug in
    let (ranges, ranges_is, over_ranges) = then_ok (streamed r.address_map) _ inputs over_symbols in
    let (sections, sections_is, over_sections) = then_ok (sections_read r) _ inputs over_ranges in
    let (merged, merged_is, last) = then_ok (searched_contributions sections symbols debug) _ inputs over_sections in
    record {
      debug = debug;
      debug_is = streamed_ok r.debug_information debug debug_is;
      symbols = symbols;
      symbols_is = streamed_ok r.global_symbols symbols symbols_is;
      ranges = ranges;
      ranges_is = streamed_ok r.address_map ranges ranges_is;
      sections = sections;
      sections_is = sections_is;
      is = ok_same (inputs_with r sections ranges symbols debug formatter) inputs last;
    }

-- a context of records is made of both
pub made_of : (flags : TypeFormatterFlags) (r : Records) (inputs : ContextInputs Records)
    → context_of flags r ≡ Ok inputs → (m : Made r) × (context_made flags r m ≡ inputs)
made_of flags r inputs e =
    let (formatter, formatter_is, over) = then_ok (formatter_of flags r) (context_over r) inputs e in
    combined formatter (formatter_parts flags r formatter formatter_is) over where
      both : (formatter : TypeInputs Records) (f : FormatterParts flags r formatter)
          → ContextParts r formatter inputs → (m : Made r) × (context_made flags r m ≡ inputs)
      both formatter f p = (
        record {
          debug = f.debug;
          debug_is = f.debug_is;
          types = f.types;
          types_is = f.types_is;
          ids = f.ids;
          ids_is = f.ids_is;
          pointer = f.pointer;
          pointer_is = f.pointer_is;
          symbols = p.symbols;
          symbols_is = p.symbols_is;
          ranges = p.ranges;
          ranges_is = p.ranges_is;
          sections = p.sections;
          sections_is = p.sections_is;
        },
        ap (inputs_with r p.sections p.ranges p.symbols f.debug) f.is
            ∙ ap (λ (debug : DebugInformation). inputs_with r p.sections p.ranges p.symbols debug formatter)
            (ok_same f.debug p.debug (sym f.debug_is ∙ p.debug_is))
            ∙ p.is,
      )

      combined : (formatter : TypeInputs Records) → FormatterParts flags r formatter
          → context_over r formatter ≡ Ok inputs → (m : Made r) × (context_made flags r m ≡ inputs)
      combined formatter f over = both formatter f (context_parts r formatter inputs over)
