-- What is cached of modules, and what can be read of them.
use Rattle.std.proofs.Common.{◌≡◌, ◌∙◌, ℕ, ◌<◌, zero, suc, List, [], ◌∷◌, length, Option, Some, None, refl, sym, ap}
use Rattle.std.proofs.Common.{subst, arith}
use Rattle.std.proofs.lemmas.Bool.Decides.{nat_tests}
use Rattle.std.specs.Prelude.{◌==◌, Bool, true, false, IfSome, slice_get, slice_set, is_none, option_map, option_and_then, if◌then◌else◌}
use Rattle.std.specs.Result.{result_unwrap_or}
use Rattle.pdb_records.specs.declared.debug_information.Module.{Module}
use Rattle.pdb_records.specs.declared.modules.ModuleInfo.{ModuleInfo}
use Rattle.pdb_tables.specs.Slots.{held}
use Rattle.pdb_tables.proofs.NumberLemmas.{eqb_same}
use Rattle.pdb_tables.proofs.SlotLemmas.{held_put, none_held}
use Rattle.pdb_records.specs.Provided.{ProviderInfos}
use Rattle.pdb_functions.specs.ModuleInfoCache.{readable_info, IsModuleInfoCache, IsCachedInfo}
use Rattle.pdb_functions.specs.declared.named_info.NamedInfo.{NamedInfo}

-- where nothing is cached, that is a cache of any modules
pub infos_new : (infos : ProviderInfos) (cached : List (Option NamedInfo)) → cached ≡ []
    → IsModuleInfoCache infos cached
unfolding IsModuleInfoCache
infos_new infos cached empty =
    λ module_index entry got modules here. let none = none_held {T = NamedInfo} module_index in let no = rw (empty, none) at got in
    absurd cc

-- with more empty slots, it stays a cache of the same modules
pub infos_nowhere : (infos : ProviderInfos) (cached more : List (Option NamedInfo))
    → ((p : ℕ) → held more p ≡ held cached p) → IsModuleInfoCache infos cached → IsModuleInfoCache infos more
unfolding IsModuleInfoCache
infos_nowhere infos cached more same is_cache = λ module_index entry got modules here. is_cache module_index entry
    (sym (same module_index) ∙ got) modules here

-- of two lists with one module at a module index, one thing can be read there
readable_same : (infos : ProviderInfos) (module_index : ℕ) (a b : List Module)
    → slice_get a module_index ≡ slice_get b module_index
    → readable_info infos a module_index ≡ readable_info infos b module_index
readable_same infos module_index a b same =
    let whole = λ (info : ModuleInfo). if is_none info.symbols.fault then Some info else None in
    ap (λ o. option_and_then (λ (m : Module). option_and_then whole (result_unwrap_or (infos module_index m) None)) o)
    same

-- one more entry, in the place of any from before
pub infos_put : (infos : ProviderInfos) (modules : List Module) (module_index : ℕ) (entry : NamedInfo)
    (cached : List (Option NamedInfo)) → slice_get modules module_index ≡ Some (record { name = entry.name })
    → entry.info ≡ readable_info infos modules module_index → module_index < length cached
    → IsModuleInfoCache infos cached
    → IsModuleInfoCache infos (slice_set cached module_index (Some entry))
unfolding IsModuleInfoCache
infos_put infos modules module_index entry cached there read within is_cache =
    λ other found got others here.
    by_test other found others here (other == module_index) refl (sym (held_put cached module_index (Some entry) other within) ∙ got)
  where
    by_test : (other : ℕ) (found : NamedInfo) (others : List Module)
        → slice_get others other ≡ Some (record { name = found.name }) → (t : Bool) → (other == module_index) ≡ t
        → (if other == module_index then Some entry else held cached other) ≡ Some found
        → found.info ≡ readable_info infos others other
    by_test other found others here true is got =
        let one : other ≡ module_index = grind (arith, nat_tests, is) in
        let same : entry ≡ found = let e = rw is at got in cc in
        subst (λ f. slice_get others module_index ≡ Some (record { name = f.name })
        → f.info ≡ readable_info infos others module_index) same
        (λ at. read ∙ readable_same infos module_index modules others (there ∙ sym at))
        (rw one at here) ∙ ap (readable_info infos others) (sym one)
    by_test other found others here false is got = is_cache other found (rw is at got) others here

-- an entry that is put into a slot is cached there, with its name
pub cached_put : (module_index : ℕ) (entry : NamedInfo) (cached : List (Option NamedInfo))
    → module_index < length cached → IsCachedInfo (slice_set cached module_index (Some entry)) module_index entry.name
cached_put module_index entry cached within =
    rw (held_put cached module_index (Some entry) module_index within, eqb_same module_index) refl

-- what is cached with the module's name is what can be read
pub infos_found : (infos : ProviderInfos) (modules : List Module) (module_index : ℕ) (name : List ℕ)
    (entry : NamedInfo) (cached : List (Option NamedInfo)) → IsModuleInfoCache infos cached
    → slice_get modules module_index ≡ Some (record { name = name }) → IsCachedInfo cached module_index name
    → held cached module_index ≡ Some entry → entry.info ≡ readable_info infos modules module_index
unfolding IsModuleInfoCache
infos_found infos modules module_index name entry cached is_cache there has got =
    let named : Some entry.name ≡ Some name = rw got at has in
    is_cache module_index entry got modules
    (there ∙ ap (λ o. option_map (λ (n : List ℕ). module_of n) o) (sym named))
  where
    module_of : List ℕ → Module
    module_of n = record { name = n }

-- a list has an element at each position below its length
there_is : (modules : List Module) (module_index : ℕ) → module_index < length modules
    → slice_get modules module_index ≡ None → ⊥
there_is [] module_index within none = absurd (omega arith)
there_is (m ∷ ms) zero within none = let no : ⊥ = cc in no
there_is (m ∷ ms) (suc module_index) within none = there_is ms module_index (omega arith) none

-- the same at a module index of the list, where what is cached there has the name of the module
pub infos_at : (infos : ProviderInfos) (modules : List Module) (module_index : ℕ) (entry : NamedInfo)
    (cached : List (Option NamedInfo)) → IsModuleInfoCache infos cached → module_index < length modules
    → IfSome (slice_get modules module_index) (λ m. IsCachedInfo cached module_index m.name)
    → held cached module_index ≡ Some entry → entry.info ≡ readable_info infos modules module_index
infos_at infos modules module_index entry cached is_cache within has got =
    by_module (slice_get modules module_index) refl where
      by_module : (m : Option Module) → slice_get modules module_index ≡ m
          → entry.info ≡ readable_info infos modules module_index
      by_module None past = absurd (there_is modules module_index within past)
      by_module (Some m) there = infos_found infos modules module_index m.name entry cached is_cache there
          (rw there at has) got
