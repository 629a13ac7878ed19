-- Names that are cached are those that would be printed, now and after other parts of the records failed.
use Rattle.std.proofs.Common.{◌≡◌, ℕ, List, [], ◌∷◌, Option, Some, sym, subst}
use Rattle.std.specs.Prelude.{◌++◌, None, Result, Ok, Err, OnOk, OnErr, option_map, string_bytes}
use Rattle.std.proofs.lemmas.List.Elements.{All-nil, All-same, All-push, All-weaker}
use Rattle.pdb_records.specs.Names.{lossy}
use Rattle.pdb_types.specs.FailedParts.{Parts, with_met}
use Rattle.pdb_records.specs.Provided.{ProviderInfos}
use Rattle.pdb_types.specs.declared.read_error.Part.{Part}
use Rattle.pdb_functions.specs.FunctionMatches.{procedures_of_module}
use Rattle.pdb_functions.specs.SymbolNames.{name_by_symbol}
use Rattle.pdb_type_texts.specs.BrokenParts.{AddsBroken, with_parts, Settled}
use Rattle.pdb_type_texts.specs.Documents.{Document, run}
use Rattle.pdb_type_printer.specs.Formatters.{Formatter}
use Rattle.pdb_type_texts.specs.Ids.{id_of_index}
use Rattle.pdb_type_texts.specs.Printed.{document_of, id_run}
use Rattle.pdb_type_texts.specs.Signatures.{signature}
use Rattle.pdb_type_texts.specs.PrintInputs.{PrintInputs, formatter_inputs}
use Rattle.pdb_type_texts.proofs.MetLemmas.{settled-printed, settled-more}
use Rattle.pdb_function_info.specs.CachedNames.{IsPrinted, signature_printing, IsCachedSignature, IsSignatureCache}
use Rattle.pdb_function_info.specs.CachedNames.{IsCachedId, IsIdCache, HasText}
use Rattle.pdb_function_info.specs.NameTexts.{text_of_run}
use Rattle.pdb_function_info.specs.declared.cached_texts.CachedText.{CachedText}
use Rattle.pdb_function_info.specs.declared.name_keys.IdKey.{IdKey}
use Rattle.pdb_function_info.specs.declared.name_keys.SignatureKey.{SignatureKey}

-- ---- one text

-- what was printed just now is printed, and adds no part again
pub printed_now : (d : Document) (old new : Parts) (text : Option (List ℕ)) → text ≡ text_of_run (run d [])
    → new ≡ (run d old).failed → IsPrinted (run d) new text
printed_now d old new text is failed =
    record { is = is; settled = subst (λ f. Settled (run d) f) (sym failed) (settled-printed d old) }

-- what is printed stays so as more parts fail
pub printed_later : (d : Document) (failed : Parts) (added : List Part) (text : Option (List ℕ))
    → IsPrinted (run d) failed text → IsPrinted (run d) (with_parts failed added) text
printed_later d failed added text printed =
    record { is = printed.is; settled = settled-more d failed added printed.settled }

-- the parts that failed are those from before, and more
abbrev MoreParts : Parts → Parts → Type 0
MoreParts old new = (added : List Part) × (new ≡ with_parts old added)

-- broken parts that were met are more parts
pub more_broken : (w : PrintInputs) (old new : Parts) → AddsBroken w old new → MoreParts old new
more_broken w old new adds = (adds.added, adds.is)

-- a part that a size met is one more, where one was met and remembered
pub more_met : {A E : Type 0} (r : Result A E) (met : Option Part) (old new : Parts) → OnOk r (new ≡ with_met old met)
    → OnErr r (new ≡ old) → MoreParts old new
more_met (Ok a) None old new added same = ([], added)
more_met (Ok a) (Some part) old new added same = (part ∷ [], added)
more_met (Err e) met old new added same = ([], same)

-- what a call leads to, however it ends
pub at_either_end : {A E P Q R : Type 0} (r : Result A E) → (P → R) → (Q → R) → OnOk r P → OnErr r Q → R
at_either_end (Ok a) added refused p q = added p
at_either_end (Err e) added refused p q = refused q

-- ---- the keys

-- the key of these numbers
abbrev pub signature_key : ℕ → ℕ → ℕ → SignatureKey
signature_key module_index symbol type_index =
    record { module_index = module_index; symbol = symbol; type_index = type_index }

-- ---- signatures

-- no signature is cached
pub signatures_new : {P : Type 0} (info : P → ProviderInfos) (infos : ProviderInfos) (f : Formatter P)
    (cached : List (CachedText SignatureKey)) → cached ≡ [] → IsSignatureCache info infos f cached
unfolding IsSignatureCache
signatures_new info infos f cached empty = All-same (IsCachedSignature info infos f) cached [] empty
    (All-nil (IsCachedSignature info infos f))

-- signatures that are cached stay
pub signatures_same : {P : Type 0} (info : P → ProviderInfos) (infos : ProviderInfos) (f : Formatter P)
    (cached more : List (CachedText SignatureKey)) → more ≡ cached → IsSignatureCache info infos f cached
    → IsSignatureCache info infos f more
unfolding IsSignatureCache
signatures_same info infos f cached more same is_cache =
    All-same (IsCachedSignature info infos f) more cached same is_cache

-- one more signature
pub signatures_more : {P : Type 0} (info : P → ProviderInfos) (infos : ProviderInfos) (f : Formatter P)
    (entry : CachedText SignatureKey) (cached more : List (CachedText SignatureKey)) → more ≡ cached ++ entry ∷ []
    → IsCachedSignature info infos f entry → IsSignatureCache info infos f cached
    → IsSignatureCache info infos f more
unfolding IsSignatureCache
signatures_more info infos f entry cached more is fitting is_cache =
    All-same (IsCachedSignature info infos f) more (cached ++ entry ∷ []) is
    (All-push (IsCachedSignature info infos f) cached entry is_cache fitting)

-- what is cached of a procedure is printed, by the name that its symbol has
pub signature_found : {P : Type 0} (info : P → ProviderInfos) (infos : ProviderInfos) (f : Formatter P)
    (cached : List (CachedText SignatureKey)) (key : SignatureKey) (name : List ℕ) (text : Option (List ℕ))
    → IsSignatureCache info infos f cached → HasText cached key text
    → name_by_symbol key.symbol (procedures_of_module infos f.type_inputs.modules key.module_index) ≡ Some name
    → IsPrinted (signature_printing info f key name) f.failed text
unfolding IsSignatureCache
signature_found info infos f cached key name text is_cache has named =
    let i = has.stands.0 in
    let fitting : IsCachedSignature info infos f has.entry =
    rw (has.stands.1.1) (is_cache i has.entry has.stands.1.0) in
    rw (← has.keyed, ← has.is) (fitting name (rw has.keyed named))

-- a signature that is printed by the name of a symbol is printed by each name that the symbol has
pub printed_by_symbol : {P : Type 0} (info : P → ProviderInfos) (infos : ProviderInfos) (f : Formatter P)
    (key : SignatureKey) (name : List ℕ) (text : Option (List ℕ))
    → name_by_symbol key.symbol (procedures_of_module infos f.type_inputs.modules key.module_index) ≡ Some name
    → IsPrinted (signature_printing info f key name) f.failed text
    → (other : List ℕ) → name_by_symbol key.symbol
    (procedures_of_module infos f.type_inputs.modules key.module_index) ≡ Some other
    → IsPrinted (signature_printing info f key other) f.failed text
printed_by_symbol info infos f key name text named printed other also = let same : name ≡ other = cc in
    rw (← same) printed

-- a cache of signatures stays one as more parts fail
pub signatures_later : {P : Type 0} (info : P → ProviderInfos) (infos : ProviderInfos) (f g : Formatter P)
    (cached : List (CachedText SignatureKey)) → g.type_inputs ≡ f.type_inputs → MoreParts f.failed g.failed
    → IsSignatureCache info infos f cached → IsSignatureCache info infos g cached
unfolding IsSignatureCache
signatures_later info infos f g cached same more is_cache =
    All-weaker (IsCachedSignature info infos f) (IsCachedSignature info infos g) (λ entry fitting name named.
    let w = formatter_inputs info f.type_inputs entry.key.module_index in
    let d = document_of w (signature w (lossy name) entry.key.type_index) in
    rw (same, more.1) (printed_later d f.failed more.0 (option_map string_bytes entry.text)
    (fitting name (rw same at named)))) cached is_cache

-- ---- ids

-- the key of these numbers
abbrev pub id_key : ℕ → ℕ → IdKey
id_key module_index index = record { module_index = module_index; index = index }

-- no text of an id is cached
pub ids_new : {P : Type 0} (info : P → ProviderInfos) (f : Formatter P) (cached : List (CachedText IdKey))
    → cached ≡ [] → IsIdCache info f cached
unfolding IsIdCache
ids_new info f cached empty = All-same (IsCachedId info f) cached [] empty (All-nil (IsCachedId info f))

-- texts that are cached stay
pub ids_same : {P : Type 0} (info : P → ProviderInfos) (f : Formatter P) (cached more : List (CachedText IdKey))
    → more ≡ cached → IsIdCache info f cached → IsIdCache info f more
unfolding IsIdCache
ids_same info f cached more same is_cache = All-same (IsCachedId info f) more cached same is_cache

-- the text of one more id
pub ids_more : {P : Type 0} (info : P → ProviderInfos) (f : Formatter P) (entry : CachedText IdKey)
    (cached more : List (CachedText IdKey)) → more ≡ cached ++ entry ∷ [] → IsCachedId info f entry
    → IsIdCache info f cached → IsIdCache info f more
unfolding IsIdCache
ids_more info f entry cached more is fitting is_cache = All-same (IsCachedId info f) more (cached ++ entry ∷ []) is
    (All-push (IsCachedId info f) cached entry is_cache fitting)

-- what is cached of an id is printed
pub id_found : {P : Type 0} (info : P → ProviderInfos) (f : Formatter P) (cached : List (CachedText IdKey))
    (key : IdKey) (text : Option (List ℕ)) → IsIdCache info f cached → HasText cached key text
    → IsPrinted (id_run info f.type_inputs key.module_index key.index) f.failed text
unfolding IsIdCache
id_found info f cached key text is_cache has =
    let i = has.stands.0 in
    let fitting : IsCachedId info f has.entry = rw (has.stands.1.1) (is_cache i has.entry has.stands.1.0) in
    rw (← has.keyed, ← has.is) fitting

-- a cache of texts stays one as more parts fail
pub ids_later : {P : Type 0} (info : P → ProviderInfos) (f g : Formatter P) (cached : List (CachedText IdKey))
    → g.type_inputs ≡ f.type_inputs → MoreParts f.failed g.failed → IsIdCache info f cached → IsIdCache info g cached
unfolding IsIdCache
ids_later info f g cached same more is_cache = All-weaker (IsCachedId info f) (IsCachedId info g) (λ entry fitting.
    let d = document_of (formatter_inputs info f.type_inputs entry.key.module_index) (id_of_index entry.key.index) in
    rw (same, more.1) (printed_later d f.failed more.0 (option_map string_bytes entry.text) fitting)) cached is_cache
