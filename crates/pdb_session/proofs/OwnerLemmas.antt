-- Whose code lies at an address, by records and by a context over them.
use Rattle.std.proofs.Common.{◌≡◌, ◌∙◌, ℕ, List, [], refl, ap, sym, not, false}
use Rattle.std.specs.Prelude.{Option, Some, None, Result, Ok, Err, option_map, option_and_then, find, unwrap_or}
use Rattle.std.specs.Option.{option_map_or}
use Rattle.std.specs.Result.{result_unwrap_or}
use Rattle.pdb_records.specs.Addresses.{internal_offset}
use Rattle.pdb_records.specs.Records.{Records}
use Rattle.pdb_records.specs.declared.addresses.ImageSectionHeader.{ImageSectionHeader}
use Rattle.pdb_records.specs.declared.addresses.PdbInternalSectionOffset.{PdbInternalSectionOffset}
use Rattle.pdb_records.specs.declared.error.StreamError.{StreamError}
use Rattle.pdb_errors.specs.Outcomes.{and_then, streamed}
use Rattle.pdb_errors.specs.declared.error.Error.{Error}
use Rattle.pdb_types.specs.declared.flags.TypeFormatterFlags.{TypeFormatterFlags}
use Rattle.pdb_functions.specs.MergedContributions.{merged_contributions}
use Rattle.pdb_functions.specs.Spans.{contribution_covers}
use Rattle.pdb_addr2line.specs.ContextData.{context_of}
use Rattle.pdb_addr2line.specs.ContextInputs.{ContextInputs}
use Rattle.pdb_known.specs.Known.{Known, is_read, lacks}
use Rattle.pdb_known.proofs.ContextLemmas.{Made, context_made, made_of}
use Rattle.pdb_session.specs.CodeOwners.{Owners, headers_of, lacks_owner, merged_in, owners_of}

-- the headers that a context has are those of the records
headers_same : (sections : Result (Option (List ImageSectionHeader)) StreamError) (headers : List ImageSectionHeader)
    → and_then (streamed sections) (λ read. Ok (unwrap_or read [])) ≡ Ok headers
    → unwrap_or (result_unwrap_or sections None) [] ≡ headers
headers_same (Ok read) headers e = ap (λ (r : Result (List ImageSectionHeader) Error). result_unwrap_or r []) e
headers_same (Err fault) headers e = absurd cc

-- a test of what is found holds of the part that it looks at
mapped : {A B C : Type 0} (test : B → C) (part : A → B) (found : Option A) (absent : C)
    → option_map_or test (option_map part found) absent ≡ option_map_or (λ a. test (part a)) found absent
mapped test part None absent = refl
mapped test part (Some a) absent = refl

-- the owners of the code that records list are those that a context over them searches
owners_made : (r : Records) (m : Made r) → owners_of r
    ≡ record { address_map = m.ranges; contributions = result_unwrap_or (merged_contributions m.sections m.debug) [] }
owners_made r m =
    ap (λ ranges. record {
      address_map = result_unwrap_or ranges [];
      contributions = merged_in (headers_of r) r.debug_information;
    }) m.ranges_is
    ∙ ap (λ debug. record { address_map = m.ranges; contributions = merged_in (headers_of r) debug }) m.debug_is
    ∙ ap (λ headers. record { address_map = m.ranges; contributions = merged_in headers (Ok m.debug) })
    (headers_same r.sections m.sections m.sections_is)

-- what is read for an address by a context over the records is what is read for it by the owners of their code
pub lacks_same : (flags : TypeFormatterFlags) (known : Known) (part : ContextInputs Records) (address : ℕ)
    → context_of flags known.records ≡ Ok part
    → lacks known part address ≡ lacks_owner known (owners_of known.records) address
lacks_same flags known part address made = by_made (made_of flags known.records part made) where
  by_made : (m : Made known.records) × (context_made flags known.records m ≡ part)
      → lacks known part address ≡ lacks_owner known (owners_of known.records) address
  by_made (m, is) =
      ap (λ (inputs : ContextInputs Records). lacks known inputs address) (sym is)
      ∙ sym (mapped (λ module_index. not (is_read known module_index)) (λ c. c.module_index)
      (option_and_then (λ (section_offset : PdbInternalSectionOffset). find (contribution_covers section_offset)
      (result_unwrap_or (merged_contributions m.sections m.debug) []))
      (internal_offset m.ranges (record { 0 = address }))) false)
      ∙ ap (λ owners. lacks_owner known owners address) (sym (owners_made known.records m))

-- the same by the owners that a session keeps
pub kept_lacking : (inside known : Known) (owners : Owners) (address : ℕ) → inside ≡ known
    → owners ≡ owners_of inside.records
    → lacks_owner inside owners address ≡ lacks_owner known (owners_of known.records) address
kept_lacking inside known owners address view made =
    ap (λ (o : Owners). lacks_owner inside o address) made
    ∙ ap (λ (k : Known). lacks_owner k (owners_of k.records) address) view
