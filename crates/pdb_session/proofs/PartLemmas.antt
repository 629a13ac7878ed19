-- Answers of a context over what was read of a file, and over all of its records.
use Rattle.std.proofs.Common.{◌≡◌, ◌∙◌, ℕ, Bool, true, false, not, ◌||◌, ◌&&◌, List, [], ◌∷◌, ap, inl, inr}
use Rattle.std.proofs.Common.{refl, subst, sym}
use Rattle.std.specs.Prelude.{Option, Some, None, Ok, option_map}
use Rattle.std.specs.Option.{option_map_or}
use Rattle.pdb_records.specs.Records.{Records}
use Rattle.pdb_types.specs.FailedParts.{Parts}
use Rattle.pdb_types.specs.declared.flags.TypeFormatterFlags.{TypeFormatterFlags}
use Rattle.pdb_frames.specs.declared.code_parts.CodePart.{CodePart}
use Rattle.pdb_addr2line.specs.ContextData.{context_of}
use Rattle.pdb_addr2line.specs.ContextInputs.{ContextInputs, ContextState}
use Rattle.pdb_addr2line.specs.Lookups.{answered_refusal, blamed_at, code_failed_after, failed_after}
use Rattle.pdb_addr2line.specs.Lookups.{failed_after_frames, failed_by_refusal, frames_answered, frames_at, function_at}
use Rattle.pdb_addr2line.specs.NamedFunctions.{named_answer, named_frames_answered, named_function, named_function_at}
use Rattle.pdb_addr2line.specs.NamedFunctions.{symbol_name_at}
use Rattle.pdb_known.specs.Known.{Known, IsPartOf, all_read, infos_of, is_closed, is_read, lacks}
use Rattle.pdb_known.proofs.AnswerLemmas.{blamed_at_same, frames_at_same, function_at_same, symbol_name_at_same}
use Rattle.pdb_known.proofs.FailedLemmas.{failed_after_frames_same, failed_after_same}
use Rattle.pdb_known.proofs.KnownLemmas.{same_or_known}
use Rattle.pdb_known.proofs.StrictlyClosedLemmas.{closed_from_strictly}
use Rattle.pdb_known.specs.StrictlyClosed.{is_strictly_closed}
use Rattle.pdb_session.proofs.OwnerLemmas.{kept_lacking, lacks_same}
use Rattle.pdb_session.specs.CodeOwners.{Owners, lacks_owner, owner_at, owners_of}
use Rattle.pdb_session.specs.Session.{ContextOverPart, needs, needs_none, over}

-- what a context over all records answers of the function and the frames at an address
pub record SameAnswers (part inputs : ContextInputs Records) (address : ℕ) : Type 0 where
  pub function : function_at infos_of part address ≡ function_at infos_of inputs address
  pub failed_by_function : (parts : Parts)
      → failed_after infos_of part address parts ≡ failed_after infos_of inputs address parts
  pub symbol : symbol_name_at infos_of part address ≡ symbol_name_at infos_of inputs address
  pub frames : frames_at infos_of part address ≡ frames_at infos_of inputs address
  pub blame : blamed_at infos_of part address ≡ blamed_at infos_of inputs address
  pub failed : (parts : Parts)
      → failed_after_frames infos_of part address parts ≡ failed_after_frames infos_of inputs address parts

-- what was read answers as all records do, where it is closed and has the module whose code lies at the address
same_answers : (flags : TypeFormatterFlags) (known : Known) (whole : Records) (part inputs : ContextInputs Records)
    (address : ℕ) → IsPartOf known whole → is_closed known ≡ true → context_of flags known.records ≡ Ok part
    → context_of flags whole ≡ Ok inputs → lacks known part address ≡ false → SameAnswers part inputs address
same_answers flags known whole part inputs address is_part closed part_is inputs_is has =
    elim (same_or_known flags known whole part inputs address is_part closed part_is inputs_is has) [
      | inl same ↦ record {
        function = ap (λ (i : ContextInputs Records). function_at infos_of i address) same;
        failed_by_function = λ parts. ap (λ (i : ContextInputs Records). failed_after infos_of i address parts) same;
        symbol = ap (λ (i : ContextInputs Records). symbol_name_at infos_of i address) same;
        frames = ap (λ (i : ContextInputs Records). frames_at infos_of i address) same;
        blame = ap (λ (i : ContextInputs Records). blamed_at infos_of i address) same;
        failed = λ parts. ap (λ (i : ContextInputs Records). failed_after_frames infos_of i address parts) same;
      }
      | inr at_address ↦ record {
        function = function_at_same infos_of part inputs address at_address;
        failed_by_function = failed_after_same infos_of part inputs address at_address;
        symbol = symbol_name_at_same infos_of part inputs address at_address;
        frames = frames_at_same infos_of part inputs address at_address;
        blame = blamed_at_same infos_of part inputs address at_address;
        failed = failed_after_frames_same infos_of part inputs address at_address;
      }
    ]

-- nothing is needed at an address where what was read is closed and has the module whose code lies there
pub none_needed : (closed lacking : Bool) → (not closed || lacking) ≡ false
    → (closed ≡ true) × (lacking ≡ false)
none_needed true false e = (refl, refl)
none_needed true true e = absurd cc
none_needed false lacking e = absurd cc

-- what was read answers as all records do at an address that needs nothing more
pub answers_as_all : (flags : TypeFormatterFlags) (known : Known) (whole : Records)
    (part inputs : ContextInputs Records) (address : ℕ) → needs known address ≡ false → IsPartOf known whole
    → context_of flags known.records ≡ Ok part → context_of flags whole ≡ Ok inputs → SameAnswers part inputs address
answers_as_all flags known whole part inputs address enough is_part part_is inputs_is =
    let (closed, has) = none_needed (is_strictly_closed known)
    (lacks_owner known (owners_of known.records) address) enough in
    same_answers flags known whole part inputs address is_part (closed_from_strictly known closed) part_is inputs_is
    (lacks_same flags known part address part_is ∙ has)

-- frames are answered as by a context over all records, in which the same parts failed before
pub answered_as_all : (state : ContextState Records) (inputs : ContextInputs Records) (address : ℕ)
    → SameAnswers state.inputs inputs address
    → frames_answered infos_of state address ≡ frames_answered infos_of (over state inputs) address
answered_as_all state inputs address same =
    ap (λ (blamed : Option CodePart). answered_refusal state.code_failed blamed
    (frames_at infos_of state.inputs address)) same.blame
    ∙ ap (answered_refusal state.code_failed (blamed_at infos_of inputs address)) same.frames

-- they go by the same names of symbols
pub named_as_all : (state : ContextState Records) (inputs : ContextInputs Records) (address : ℕ)
    → SameAnswers state.inputs inputs address
    → named_frames_answered infos_of state address ≡ named_frames_answered infos_of (over state inputs) address
named_as_all state inputs address same =
    ap (λ (name : Option (List ℕ)). named_answer name (frames_answered infos_of state address)) same.symbol
    ∙ ap (named_answer (symbol_name_at infos_of inputs address)) (answered_as_all state inputs address same)

-- a function goes by the same name
pub named_function_as_all : (part inputs : ContextInputs Records) (address : ℕ) → SameAnswers part inputs address
    → named_function_at infos_of part address ≡ named_function_at infos_of inputs address
named_function_as_all part inputs address same =
    ap (λ (name : Option (List ℕ)). option_map (named_function name) (function_at infos_of part address)) same.symbol
    ∙ ap (option_map (named_function (symbol_name_at infos_of inputs address))) same.function

-- as many parts of code fail
pub code_failed_as_all : (state : ContextState Records) (inputs : ContextInputs Records) (address : ℕ)
    → SameAnswers state.inputs inputs address
    → code_failed_after infos_of state address ≡ code_failed_after infos_of (over state inputs) address
code_failed_as_all state inputs address same =
    ap (λ (blamed : Option CodePart). failed_by_refusal state.code_failed blamed
    (frames_at infos_of state.inputs address)) same.blame
    ∙ ap (failed_by_refusal state.code_failed (blamed_at infos_of inputs address)) same.frames

-- the same of a context over a part as contracts see it
pub same_over : (seen : ContextOverPart) (now : ContextOverPart) (whole : Records) (inputs : ContextInputs Records)
    (address : ℕ) → seen ≡ now → context_of seen.flags seen.known.records ≡ Ok seen.state.inputs
    → needs now.known address ≡ false → IsPartOf now.known whole → context_of now.flags whole ≡ Ok inputs
    → SameAnswers now.state.inputs inputs address
same_over seen now whole inputs address view made enough is_part made_whole =
    answers_as_all now.flags now.known whole now.state.inputs inputs address enough is_part
    (subst (λ (v : ContextOverPart). context_of v.flags v.known.records ≡ Ok v.state.inputs) view made) made_whole

-- nothing is needed once all records were read
pub all_needs_none : (known : Known) (records : Records) (addresses : List ℕ) → known ≡ all_read records
    → needs_none known addresses ≡ true
all_needs_none known records addresses is =
    ap (λ (k : Known). needs_none k addresses) is ∙ each addresses where
      found : (owner : Option ℕ) → option_map_or (λ module_index. not (is_read (all_read records) module_index))
          owner false ≡ false
      found None = refl
      found (Some module_index) = refl

      each : (addresses : List ℕ) → needs_none (all_read records) addresses ≡ true
      each [] = refl
      each (address ∷ rest) =
          ap (λ lacking. not lacking && needs_none (all_read records) rest)
          (found (owner_at (owners_of records) address)) ∙ each rest

-- where what was read is closed, something is needed at an address exactly if its module is lacking
pub needs_if_lacking : (inside known : Known) (owners : Owners) (address : ℕ) (closed : Bool) → inside ≡ known
    → owners ≡ owners_of inside.records → closed ≡ is_strictly_closed inside → closed ≡ true
    → lacks_owner inside owners address ≡ needs known address
needs_if_lacking inside known owners address closed view made is holds =
    kept_lacking inside known owners address view made
    ∙ sym (ap (λ test. not test || lacks_owner known (owners_of known.records) address)
    (ap is_strictly_closed (sym view) ∙ sym is ∙ holds))
