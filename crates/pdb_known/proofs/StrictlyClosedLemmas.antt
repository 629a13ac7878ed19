-- What the stricter check passes is closed.
use Rattle.std.proofs.Common.{◌≡◌, ◌+◌, ℕ, Bool, true, false, cond, nat_lt, List, [], ◌∷◌, ◌++◌, refl}
use Rattle.std.specs.Prelude.{◌&&◌, ◌||◌, not, Option, Some, None, Result, Ok, Err, is_some, option_to_list}
use Rattle.std.specs.List.{AllByRecursion, list_all}
use Rattle.std.specs.Option.{option_map_or}
use Rattle.std.specs.declared.cmp.Ordering.{Ordering}
use Rattle.pdb_records.specs.Addresses.{is_same_section_offset}
use Rattle.pdb_records.specs.SymbolKinds.{is_code_kind}
use Rattle.pdb_records.specs.declared.error.StreamError.{StreamError}
use Rattle.pdb_records.specs.declared.modules.ModuleInfo.{ModuleInfo}
use Rattle.pdb_records.specs.declared.symbols.Symbol.{Symbol}
use Rattle.pdb_records.specs.declared.symbols.SymbolData.{SymbolData}
use Rattle.pdb_records.specs.declared.symbols.SymbolData.TheVariants.{Public, Procedure, SeparatedCode, Thunk}
use Rattle.pdb_records.specs.declared.symbols.SymbolData.TheVariants.{InlineSite, Other}
use Rattle.pdb_tables.specs.InOrder.{in_order}
use Rattle.pdb_tables.specs.Keyed.{firsts_after, first_of_each_key, is_lower, is_same_key}
use Rattle.pdb_functions.specs.Procedures.{ModuleProcedure, procedure_data, procedure_at, last_counted}
use Rattle.pdb_functions.specs.Procedures.{procedures_from, symbol_procedures, info_procedures}
use Rattle.pdb_functions.specs.Starts.{section_offset_cmp}
use Rattle.pdb_functions.proofs.OrderLemmas.{all_in_order}
use Rattle.pdb_part_laws.specs.Asked.{alone}
use Rattle.pdb_known.specs.Known.{Known, is_covered, is_read, is_closed, all_types, are_sites_closed, is_module_closed}
use Rattle.pdb_known.specs.Known.{are_modules_closed}
use Rattle.pdb_known.specs.StrictlyClosed.{given_type, is_procedure_type_read, is_module_strictly_closed}
use Rattle.pdb_known.specs.StrictlyClosed.{are_modules_strictly_closed, is_strictly_closed}
use Rattle.pdb_known.proofs.ClosedLemmas.{both}

-- two tests that pass pass together
together : (x y : Bool) → x ≡ true → y ≡ true → (x && y) ≡ true
together true y is e = e
together false y is e = absurd cc

-- where one test implies another, it does so too where both have an exception
still_wanted : (t x y : Bool) → (x ≡ true → y ≡ true) → (not t || x) ≡ true → (not t || y) ≡ true
still_wanted true x y more e = more e
still_wanted false x y more e = refl

-- the same where both have an exception and go on with one rest
still_enough : (all x y rest : Bool) → (x ≡ true → y ≡ true) → (all || (x && rest)) ≡ true → (all || (y && rest)) ≡ true
still_enough true x y rest more e = refl
still_enough false x y rest more e = let (here, others) = both x rest e in together y rest (more here) others

-- where a test passes for each element, all pass it
all_tested : {A : Type 0} (test : A → Bool) (xs : List A) → AllByRecursion (λ x. test x ≡ true) xs
    → list_all test xs ≡ true
all_tested test [] all = refl
all_tested test (x ∷ xs) all = together (test x) (list_all test xs) all.0 (all_tested test xs all.1)

-- what holds of each element holds of those that stay of neighbours with one key
all_of_firsts : {T K : Type 0} (cmp : K → K → Ordering) (key : T → K) (P : T → Type 0) (before : Option K)
    (xs : List T) → AllByRecursion P xs → AllByRecursion P (firsts_after cmp key before xs)
all_of_firsts cmp key P before [] all = tt
all_of_firsts {T} {K} cmp key P before (x ∷ xs) all =
    by_test (is_same_key cmp before (key x)) (all_of_firsts cmp key P before xs all.1)
    (all_of_firsts cmp key P (Some (key x)) xs all.1)
  where
    by_test : (t : Bool) → AllByRecursion P (firsts_after cmp key before xs)
        → AllByRecursion P (firsts_after cmp key (Some (key x)) xs)
        → AllByRecursion P (cond t (firsts_after cmp key before xs) (x ∷ firsts_after cmp key (Some (key x)) xs))
    by_test true same other = same
    by_test false same other = (all.0, other)

-- what holds of each element holds of the first of each key
all_of_first_of_each : {T K : Type 0} (cmp : K → K → Ordering) (key : T → K) (P : T → Type 0) (xs : List T)
    → AllByRecursion P xs → AllByRecursion P (first_of_each_key cmp key xs)
all_of_first_of_each cmp key P xs all =
    all_of_firsts cmp key P None (in_order (is_lower cmp key) xs) (all_in_order (is_lower cmp key) P xs all)

module _ (known : Known) where
  -- the type of a procedure was read
  abbrev has_type : ModuleProcedure → Bool
  has_type p = is_covered known.types p.type_index.0

  -- a procedure that is left out where it is empty, and else has the type that its symbol gives
  has_given_type : (t : Bool) (p : ModuleProcedure)
      → all_types (is_covered known.types) (alone (cond t (Some p.type_index) None)) ≡ true
      → option_map_or has_type (cond t (Some p) None) true ≡ true
  has_given_type true p e = (both (has_type p) true e).0
  has_given_type false p e = refl

  -- the same of one whose type is that of a procedure before it
  has_parent_type : (t u : Bool) (p : ModuleProcedure) → has_type p ≡ true
      → option_map_or has_type (cond t (cond u (Some p) None) None) true ≡ true
  has_parent_type true true p e = e
  has_parent_type true false p e = refl
  has_parent_type false u p e = refl

  -- what a symbol holds shows a procedure whose type was read, where the type that it gives was, and that of the last
  -- procedure
  data_has_type : (at : ℕ) (last : Option ModuleProcedure) (content : Option SymbolData)
      → option_map_or has_type last true ≡ true
      → all_types (is_covered known.types) (alone (given_type content)) ≡ true
      → option_map_or has_type (procedure_data at last content) true ≡ true
  data_has_type at last None before given = refl
  data_has_type at last (Some (Public s)) before given = refl
  data_has_type at last (Some (Procedure s)) before given = has_given_type (nat_lt 0 s.len) (record {
    offset = s.offset;
    len = s.len;
    name = s.name;
    symbol_index = record { 0 = at };
    end_symbol_index = s.end;
    type_index = s.type_index;
  }) given
  data_has_type at None (Some (SeparatedCode s)) before given = refl
  data_has_type at (Some parent) (Some (SeparatedCode s)) before given =
      has_parent_type (is_same_section_offset parent.offset s.parent_offset) (nat_lt 0 s.len) (record {
        offset = s.offset;
        len = s.len;
        name = parent.name;
        symbol_index = record { 0 = at };
        end_symbol_index = s.end;
        type_index = parent.type_index;
      }) before
  data_has_type at last (Some (Thunk s)) before given = has_given_type (nat_lt 0 s.len) (record {
    offset = s.offset;
    len = s.len;
    name = s.name;
    symbol_index = record { 0 = at };
    end_symbol_index = s.end;
    type_index = record { 0 = 0 };
  }) given
  data_has_type at last (Some (InlineSite s)) before given = refl
  data_has_type at last (Some Other) before given = refl

  -- the same of a symbol
  symbol_has_type : (at : ℕ) (last : Option ModuleProcedure) (symbol : Symbol)
      → option_map_or has_type last true ≡ true → is_procedure_type_read known symbol ≡ true
      → option_map_or has_type (procedure_at at last symbol) true ≡ true
  symbol_has_type at last symbol before given = by_kind (is_code_kind symbol.raw_kind) given where
    by_kind : (t : Bool)
        → all_types (is_covered known.types) (alone (cond t (given_type symbol.content) None)) ≡ true
        → option_map_or has_type (cond t (procedure_data at last symbol.content) None) true ≡ true
    by_kind true e = data_has_type at last symbol.content before e
    by_kind false e = refl

  -- the types of all procedures that symbols show were read
  all_have_types : (at : ℕ) (last : Option ModuleProcedure) (symbols : List Symbol)
      → option_map_or has_type last true ≡ true → list_all (is_procedure_type_read known) symbols ≡ true
      → AllByRecursion (λ p. has_type p ≡ true) (procedures_from at last symbols)
  all_have_types at last [] before given = tt
  all_have_types at last (symbol ∷ symbols) before given =
      let (here, rest) = both (is_procedure_type_read known symbol) _ given in
      by_shown (procedure_at at last symbol) (symbol_has_type at last symbol before here)
      (λ next ok. all_have_types (at + 1) next symbols ok rest)
    where
      by_shown : (shown : Option ModuleProcedure) → option_map_or has_type shown true ≡ true
          → ((next : Option ModuleProcedure) → option_map_or has_type next true ≡ true
          → AllByRecursion (λ p. has_type p ≡ true) (procedures_from (at + 1) next symbols))
          → AllByRecursion (λ p. has_type p ≡ true)
          (option_to_list shown ++ procedures_from (at + 1) (last_counted last shown) symbols)
      by_shown None is later = later last before
      by_shown (Some p) is later = (is, later (Some p) is)

  -- of each start the first procedure is one of them
  firsts_have_types : (symbols : List Symbol) → list_all (is_procedure_type_read known) symbols ≡ true
      → list_all has_type (symbol_procedures symbols) ≡ true
  firsts_have_types symbols given =
      all_tested has_type (symbol_procedures symbols)
      (all_of_first_of_each section_offset_cmp (λ p. p.offset) (λ p. has_type p ≡ true) (procedures_from 0 None symbols)
      (all_have_types 0 None symbols refl given))

  -- the procedures of a module, whose symbols may have a fault
  info_has_types : (info : ModuleInfo)
      → (is_some info.symbols.fault || list_all (is_procedure_type_read known) info.symbols.items) ≡ true
      → list_all has_type (info_procedures info) ≡ true
  info_has_types info given = by_fault info.symbols.fault refl where
    by_fault : (fault : Option StreamError) → info.symbols.fault ≡ fault
        → list_all has_type (info_procedures info) ≡ true
    by_fault (Some fault) is = rw is refl
    by_fault None is = rw is (firsts_have_types info.symbols.items (rw is at given))

  -- a module that passes the stricter check is closed
  module_closed : (answer : Result (Option ModuleInfo) StreamError) → is_module_strictly_closed known answer ≡ true
      → is_module_closed known answer ≡ true
  module_closed (Ok (Some info)) strict =
      let (types, ids) =
      both (is_some info.symbols.fault || list_all (is_procedure_type_read known) info.symbols.items) _ strict in
      together (list_all has_type (info_procedures info)) (are_sites_closed known info) (info_has_types info types) ids
  module_closed (Ok None) strict = refl
  module_closed (Err fault) strict = refl

  -- and so are the modules from one on
  modules_closed : (from : ℕ) (answers : List (Result (Option ModuleInfo) StreamError))
      → are_modules_strictly_closed known from answers ≡ true → are_modules_closed known from answers ≡ true
  modules_closed from [] strict = refl
  modules_closed from (answer ∷ answers) strict =
      let (here, rest) = both (not (is_read known from) || is_module_strictly_closed known answer) _ strict in
      together (not (is_read known from) || is_module_closed known answer) _
      (still_wanted (is_read known from) (is_module_strictly_closed known answer) (is_module_closed known answer)
      (module_closed answer) here) (modules_closed (from + 1) answers rest)

-- what the stricter check passes is closed
pub closed_from_strictly : (known : Known) → is_strictly_closed known ≡ true → is_closed known ≡ true
closed_from_strictly known strict =
    still_enough known.all (are_modules_strictly_closed known 0 known.records.module_infos)
    (are_modules_closed known 0 known.records.module_infos) _
    (modules_closed known 0 known.records.module_infos) strict
