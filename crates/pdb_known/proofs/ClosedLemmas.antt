-- What a check of what was read shows of each entry and each module.
use Rattle.std.proofs.Common.{◌≡◌, ◌+◌, ◌^◌, ℕ, zero, suc, Bool, true, false, cond, nat_eq, nat_lt, List, [], ◌∷◌}
use Rattle.std.proofs.Common.{refl, subst, arith}
use Rattle.std.specs.Prelude.{◌&&◌, ◌||◌, not, Option, Some, None, Result, Ok, Err, IfSome, find, is_none, slice_get}
use Rattle.std.specs.Prelude.{unwrap_or, option_and_then, option_map}
use Rattle.std.specs.List.{AllByRecursion, list_all}
use Rattle.std.specs.Option.{option_map_or}
use Rattle.std.specs.Result.{result_unwrap_or}
use Rattle.std.proofs.lemmas.Bool.Decides.{nat_tests}
use Rattle.pdb_records.specs.Readings.{Read}
use Rattle.pdb_records.specs.declared.debug_information.Module.{Module}
use Rattle.pdb_records.specs.declared.error.Error as records
use Rattle.pdb_records.specs.declared.error.StreamError.{StreamError}
use Rattle.pdb_records.specs.declared.ids.IdIndex.{IdIndex}
use Rattle.pdb_records.specs.declared.modules.ModuleInfo.{ModuleInfo}
use Rattle.pdb_records.specs.declared.symbols.Symbol.{Symbol}
use Rattle.pdb_records.specs.declared.types.Item.{Item}
use Rattle.pdb_types.specs.ItemMap.{first_item}
use Rattle.pdb_types.specs.ItemReading.{entry, said}
use Rattle.pdb_types.specs.Resolution.{resolved, answered}
use Rattle.pdb_types.specs.TypeInputs.{LinkInputs}
use Rattle.pdb_functions.specs.FunctionMatches.{procedures_of_module}
use Rattle.pdb_functions.specs.ModuleInfoCache.{readable_info}
use Rattle.pdb_inline.specs.Sites.{site_of}
use Rattle.pdb_addr2line.specs.ContextData.{info_at}
use Rattle.pdb_part_laws.specs.Asked.{alone}
use Rattle.pdb_known.specs.Known.{Known, Span, is_covered, is_read, infos_of, is_module_closed, are_modules_closed}
use Rattle.pdb_known.specs.Known.{are_sites_closed, all_ids}
use Rattle.pdb_known.specs.SameEntries.{IsSameEntry}
use Rattle.pdb_known.specs.SameModules.{AreProcedureTypesIn, AreSiteIdsIn, IsSiteIdIn}

-- two tests that pass together pass each
pub both : (x y : Bool) → (x && y) ≡ true → (x ≡ true) × (y ≡ true)
both true y e = (refl, e)
both false y e = absurd cc

-- where a test passes, so does what it wants
pub wanted : (x y : Bool) → (not x || y) ≡ true → x ≡ true → y ≡ true
wanted true y e is = e
wanted false y e is = absurd cc

-- where each element passes a test, all do
pub all_pass : {A : Type 0} (test : A → Bool) (xs : List A) → list_all test xs ≡ true
    → AllByRecursion (λ x. test x ≡ true) xs
all_pass test [] e = tt
all_pass test (x ∷ xs) e = let (here, rest) = both (test x) (list_all test xs) e in (here, all_pass test xs rest)

-- what is found passes the search, and the test that each element passes
found_passes : {A : Type 0} (wanted test : A → Bool) (xs : List A) → list_all test xs ≡ true
    → IfSome (find wanted xs) (λ x. (wanted x ≡ true) × (test x ≡ true))
found_passes wanted test [] e = tt
found_passes wanted test (x ∷ xs) e =
    let (here, rest) = both (test x) (list_all test xs) e in
    by_test (wanted x) refl here (found_passes wanted test xs rest) where
      by_test : (t : Bool) → wanted x ≡ t → test x ≡ true
          → IfSome (find wanted xs) (λ y. (wanted y ≡ true) × (test y ≡ true))
          → IfSome (cond t (Some x) (find wanted xs)) (λ y. (wanted y ≡ true) × (test y ≡ true))
      by_test true is here later = (is, here)
      by_test false is here later = later

-- an item that an entry was read from
pub record IsItemOf {I D : Type 0} (number_of : I → ℕ) (test : Item I D → Bool) (number : ℕ) (content : D)
    (item : Item I D) : Type 0 where
  pub content_is : item.content ≡ Ok content
  pub number_is : number_of item.index ≡ number
  pub passes : test item ≡ true

-- an entry that was read is that of an item, which passes the test that all pass
pub item_passes : {I D : Type 0} (number_of : I → ℕ) (test : Item I D → Bool) (list : Read (Item I D))
    (number : ℕ) (content : D) → list_all test list.items ≡ true → entry number_of list number ≡ Ok content
    → (item : Item I D) × IsItemOf number_of test number content item
item_passes {I} {D} number_of test list number content all =
    by_found (first_item number_of number list.items)
    (found_passes (λ item. nat_eq (number_of item.index) number) test list.items all) where
      by_content : (c : Result D records.Error) → answered c ≡ Ok content → c ≡ Ok content
      by_content (Ok c) e = cc (e)
      by_content (Err error) e = absurd cc

      by_found : (found : Option (Item I D))
          → IfSome found (λ x. (nat_eq (number_of x.index) number ≡ true) × (test x ≡ true))
          → said list.fault number found ≡ Ok content
          → (item : Item I D) × IsItemOf number_of test number content item
      by_found None passes e = absurd cc
      by_found (Some item) passes e =
          let is_number : nat_eq (number_of item.index) number ≡ true = passes.0 in (
            item,
            record {
              content_is = by_content item.content e;
              number_is = grind (arith, nat_tests, is_number);
              passes = passes.1;
            },
          )

-- a covered index is below 2 ^ 31
pub below : (span : Span) (index : ℕ) → is_covered span index ≡ true → nat_lt index (2 ^ 31) ≡ true
below span index is = (both (nat_lt index (2 ^ 31)) _ is).0

-- an index below 2 ^ 31 stands for itself
pub stands_for_itself : (link : LinkInputs) (module_index index number : ℕ) → nat_lt index (2 ^ 31) ≡ true
    → resolved link module_index index ≡ Ok number → index ≡ number
stands_for_itself link module_index index number is e =
    let own : resolved link module_index index ≡ Ok index = rw is refl in cc (own, e)

-- the same entry under an index below 2 ^ 31
pub same_below : {I D : Type 0} (number_of : I → ℕ) (link : LinkInputs) (list : Read (Item I D))
    (other_link : LinkInputs) (others : Read (Item I D)) (module_index index : ℕ) → nat_lt index (2 ^ 31) ≡ true
    → entry number_of list index ≡ entry number_of others index
    → IsSameEntry number_of link list other_link others module_index index
same_below number_of link list other_link others module_index index is same = record {
  stands_for = rw is refl;
  has = λ number e. subst (λ n. entry number_of list n ≡ entry number_of others n)
      (stands_for_itself link module_index index number is e) same;
}

-- each module that was read is closed
modules_closed : (known : Known) (from : ℕ) (answers : List (Result (Option ModuleInfo) StreamError))
    → are_modules_closed known from answers ≡ true → (k index : ℕ) → from + k ≡ index → is_read known index ≡ true
    → is_module_closed known (unwrap_or (slice_get answers k) (Ok None)) ≡ true
modules_closed known from [] closed k index is read = refl
modules_closed known from (answer ∷ answers) closed zero index is read =
    let same : from ≡ index = omega arith in
    wanted (is_read known from) (is_module_closed known answer)
    (both (not (is_read known from) || is_module_closed known answer) _ closed).0 (rw same read)
modules_closed known from (answer ∷ answers) closed (suc k) index is read =
    modules_closed known (from + 1) answers
    (both (not (is_read known from) || is_module_closed known answer) _ closed).1 k index (omega arith) read

-- the same of what the records say of a module
pub module_closed : (known : Known) → are_modules_closed known 0 known.records.module_infos ≡ true → (index : ℕ)
    → is_read known index ≡ true → is_module_closed known (info_at known.records index) ≡ true
module_closed known closed index read =
    modules_closed known 0 known.records.module_infos closed index index (omega arith) read

-- the procedures of a module that is closed
pub procedures_closed : (known : Known) (modules : List Module) (index : ℕ)
    → is_module_closed known (info_at known.records index) ≡ true
    → AreProcedureTypesIn (is_covered known.types) (procedures_of_module (infos_of known.records) modules index)
procedures_closed known modules index closed = by_module (slice_get modules index) refl where
  by_module : (found : Option Module) → slice_get modules index ≡ found
      → AreProcedureTypesIn (is_covered known.types) (procedures_of_module (infos_of known.records) modules index)
  by_module None is = rw is tt
  by_module (Some named) is =
      rw is (all_pass (λ p. is_covered known.types p.type_index.0) _ (both _ _ closed).0)

-- the inline sites of the symbols of a module
sites_closed : (known : Known) (symbols : List Symbol)
    → list_all (λ symbol. all_ids (is_covered known.ids) (alone (option_map (λ site. site.inlinee) (site_of symbol))))
    symbols ≡ true → AllByRecursion (IsSiteIdIn (is_covered known.ids)) symbols
sites_closed known [] e = tt
sites_closed known (symbol ∷ symbols) e =
    let (here, rest) = both
    (all_ids (is_covered known.ids) (alone (option_map (λ site. site.inlinee) (site_of symbol)))) _ e in
    (all_pass (λ (id : IdIndex). is_covered known.ids id.0) _ here, sites_closed known symbols rest)

-- the inline sites of a module that is closed
pub module_sites_closed : (known : Known) (modules : List Module) (index : ℕ)
    → is_module_closed known (info_at known.records index) ≡ true
    → IfSome (readable_info (infos_of known.records) modules index) (AreSiteIdsIn (is_covered known.ids))
module_sites_closed known modules index closed = by_module (slice_get modules index) refl where
  by_whole : (info : ModuleInfo) → are_sites_closed known info ≡ true → (t : Bool)
      → IfSome (cond t (Some info) None) (AreSiteIdsIn (is_covered known.ids))
  by_whole info e true = sites_closed known info.symbols.items e
  by_whole info e false = tt

  by_info : (info : Option ModuleInfo) → option_map_or (are_sites_closed known) info true ≡ true
      → IfSome (option_and_then (λ (i : ModuleInfo). cond (is_none i.symbols.fault) (Some i) None) info)
      (AreSiteIdsIn (is_covered known.ids))
  by_info None e = tt
  by_info (Some info) e = by_whole info e (is_none info.symbols.fault)

  by_module : (found : Option Module) → slice_get modules index ≡ found
      → IfSome (readable_info (infos_of known.records) modules index) (AreSiteIdsIn (is_covered known.ids))
  by_module None is = rw is tt
  by_module (Some named) is =
      rw is (by_info (result_unwrap_or (info_at known.records index) None) (both _ _ closed).1)
