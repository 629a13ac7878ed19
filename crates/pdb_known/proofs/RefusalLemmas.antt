-- Contexts over what was read of a file are refused as those over all records.
use Rattle.std.proofs.Common.{◌≡◌, ℕ, refl, ap, subst}
use Rattle.std.specs.Prelude.{Option, Some, None, Result, Ok, Err}
use Rattle.pdb_records.specs.Records.{Records}
use Rattle.pdb_records.specs.declared.error.StreamError.{StreamError}
use Rattle.pdb_records.specs.declared.types.ItemInformation.{ItemInformation}
use Rattle.pdb_errors.specs.declared.error.Error.{Error}
use Rattle.pdb_errors.specs.Outcomes.{and_then, streamed, unless}
use Rattle.pdb_types.specs.declared.flags.TypeFormatterFlags.{TypeFormatterFlags}
use Rattle.pdb_types.specs.TypeInputs.{TypeInputs, program_pointer_size}
use Rattle.pdb_addr2line.specs.ContextData.{context_of, context_over, formatter_of, formatter_refusal, sections_read}
use Rattle.pdb_addr2line.specs.ContextInputs.{searched_contributions}
use Rattle.pdb_known.specs.Known.{Known, Span, IsPartOf, AreAlike, refusal_of}

-- two steps are refused alike, where each is
then_refused : {A A' B B' : Type 0} (first : Result A Error) (other : Result A' Error) (next : A → Result B Error)
    (onward : A' → Result B' Error) → refusal_of first ≡ refusal_of other
    → ((a : A) (b : A') → refusal_of (next a) ≡ refusal_of (onward b))
    → refusal_of (and_then first next) ≡ refusal_of (and_then other onward)
then_refused (Ok a) (Ok b) next onward same each = each a b
then_refused (Ok a) (Err error) next onward same each = absurd cc
then_refused (Err error) (Ok b) next onward same each = absurd cc
then_refused (Err error) (Err other) next onward same each = same

-- the same, where the first is one
then_same : {A B B' : Type 0} (first other : Result A Error) (next : A → Result B Error) (onward : A → Result B' Error)
    → first ≡ other → ((a : A) → refusal_of (next a) ≡ refusal_of (onward a))
    → refusal_of (and_then first next) ≡ refusal_of (and_then other onward)
then_same {A = A} first other next onward same each =
    subst (λ o. refusal_of (and_then first next) ≡ refusal_of (and_then o onward)) same (by_first first) where
      by_first : (r : Result A Error) → refusal_of (and_then r next) ≡ refusal_of (and_then r onward)
      by_first (Ok a) = each a
      by_first (Err error) = refl

-- what is refused before is refused alike
unless_same : {A B : Type 0} (refusal : Option Error) (first : Result A Error) (other : Result B Error)
    → refusal_of first ≡ refusal_of other → refusal_of (unless refusal first) ≡ refusal_of (unless refusal other)
unless_same None first other same = same
unless_same (Some error) first other same = refl

-- streams that are alike are refused alike
alike_refused : {I D : Type 0} (number_of : I → ℕ) (span : Span) (part whole : Result (ItemInformation I D) StreamError)
    → AreAlike number_of span part whole → refusal_of (streamed part) ≡ refusal_of (streamed whole)
alike_refused number_of span (Ok part) (Ok whole) alike = refl
alike_refused {I} {D} number_of span (Err fault) (Err other) alike =
    ap (λ (e : StreamError). refusal_of (streamed (failed_with e))) alike
  where
    failed_with : StreamError → Result (ItemInformation I D) StreamError
    failed_with e = Err e
alike_refused number_of span (Ok part) (Err fault) alike = absurd alike
alike_refused number_of span (Err fault) (Ok whole) alike = absurd alike

-- contexts over both are refused alike
pub contexts_refused : (flags : TypeFormatterFlags) (known : Known) (whole : Records) → IsPartOf known whole
    → refusal_of (context_of flags known.records) ≡ refusal_of (context_of flags whole)
contexts_refused flags known whole is_part =
    then_refused (formatter_of flags known.records) (formatter_of flags whole) (context_over known.records)
    (context_over whole) formatters over where
      formatters : refusal_of (formatter_of flags known.records) ≡ refusal_of (formatter_of flags whole)
      formatters =
          then_same (streamed known.records.debug_information) (streamed whole.debug_information) _ _
          (ap streamed is_part.debug_information) (λ debug.
          then_refused (streamed known.records.type_information) (streamed whole.type_information) _ _
          (alike_refused (λ i. i.0) known.types known.records.type_information whole.type_information is_part.types)
          (λ types others.
          then_refused (streamed known.records.id_information) (streamed whole.id_information) _ _
          (alike_refused (λ i. i.0) known.ids known.records.id_information whole.id_information is_part.ids)
          (λ ids other_ids.
          unless_same (formatter_refusal debug) _ _
          (then_same (program_pointer_size debug.machine_type) (program_pointer_size debug.machine_type) _ _ refl
          (λ pointer. refl)))))

      over : (formatter other : TypeInputs Records)
          → refusal_of (context_over known.records formatter) ≡ refusal_of (context_over whole other)
      over formatter other =
          then_same (streamed known.records.debug_information) (streamed whole.debug_information) _ _
          (ap streamed is_part.debug_information) (λ debug.
          then_same (streamed known.records.global_symbols) (streamed whole.global_symbols) _ _
          (ap streamed is_part.global_symbols) (λ symbols.
          then_same (streamed known.records.address_map) (streamed whole.address_map) _ _
          (ap streamed is_part.address_map) (λ ranges.
          then_same (sections_read known.records) (sections_read whole) _ _ (rw is_part.sections refl) (λ sections.
          then_same (searched_contributions sections symbols debug) (searched_contributions sections symbols debug) _ _
          refl (λ merged. refl)))))
