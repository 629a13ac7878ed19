-- All records are known, once all were read.
use Rattle.std.proofs.Common.{◌≡◌, ℕ, false, refl}
use Rattle.std.specs.Prelude.{not, Option, Some, None, Result, Ok, Err}
use Rattle.std.specs.Option.{option_map_or}
use Rattle.pdb_records.specs.Records.{Records}
use Rattle.pdb_records.specs.declared.error.StreamError.{StreamError}
use Rattle.pdb_records.specs.declared.types.ItemInformation.{ItemInformation}
use Rattle.pdb_records.specs.declared.types.TypeData.{TypeData}
use Rattle.pdb_records.specs.declared.types.TypeIndex.{TypeIndex}
use Rattle.pdb_functions.specs.declared.merged_contributions.ModuleSectionContribution.{ModuleSectionContribution}
use Rattle.pdb_addr2line.specs.ContextInputs.{ContextInputs}
use Rattle.pdb_addr2line.specs.Lookups.{contribution_at}
use Rattle.pdb_known.specs.Known.{Span, IsPartOf, AreAlike, AreDefinedAlike, all_read, is_read, lacks}

-- a stream is like itself
pub alike_itself : {I D : Type 0} (number_of : I → ℕ) (span : Span) (stream : Result (ItemInformation I D) StreamError)
    → AreAlike number_of span stream stream
alike_itself number_of span (Ok content) = λ index is. refl
alike_itself number_of span (Err fault) = refl

-- and has its own definitions
pub defined_itself : (span : Span) (stream : Result (ItemInformation TypeIndex TypeData) StreamError)
    → AreDefinedAlike span stream stream
defined_itself span (Ok content) = λ index is. refl
defined_itself span (Err fault) = tt

-- all records are a part of themselves
pub part_of_itself : (records : Records) → IsPartOf (all_read records) records
part_of_itself records = record {
  all = λ _. refl;
  sections = refl;
  address_map = refl;
  global_symbols = refl;
  debug_information = refl;
  string_table = refl;
  modules = λ module_index read. refl;
  types = alike_itself (λ i. i.0) (all_read records).types records.type_information;
  definitions = defined_itself (all_read records).sizes records.type_information;
  ids = alike_itself (λ i. i.0) (all_read records).ids records.id_information;
}

-- and lack no module
pub lacks_nothing : (records : Records) (inputs : ContextInputs Records) (address : ℕ)
    → lacks (all_read records) inputs address ≡ false
lacks_nothing records inputs address = by_contribution (contribution_at inputs address) where
  by_contribution : (found : Option ModuleSectionContribution)
      → option_map_or (λ (c : ModuleSectionContribution). not (is_read (all_read records) c.module_index)) found false
      ≡ false
  by_contribution None = refl
  by_contribution (Some c) = refl
