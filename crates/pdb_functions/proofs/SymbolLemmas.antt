-- Each symbol shows at most one procedure, so a procedure that was found goes by its symbol's name.
use Rattle.std.proofs.Common.{◌≡◌, ◌∙◌, ℕ, ◌+◌, ◌≤◌, Bool, true, false, cond, List, [], ◌∷◌, ◌++◌, Option, Some, None}
use Rattle.std.proofs.Common.{refl, ap, arith}
use Rattle.std.specs.Prelude.{⊤, ◌==◌, IfSome, Result, Ok, Err, find, nat_le, nat_lt, slice_get, option_map}
use Rattle.std.specs.Prelude.{option_and_then, option_to_list}
use Rattle.std.specs.List.{AllByRecursion}
use Rattle.pdb_records.specs.Addresses.{is_same_section_offset}
use Rattle.pdb_records.specs.SymbolKinds.{is_code_kind}
use Rattle.pdb_records.specs.declared.addresses.PdbInternalSectionOffset.{PdbInternalSectionOffset}
use Rattle.pdb_records.specs.declared.debug_information.Module.{Module}
use Rattle.pdb_records.specs.declared.error.StreamError.{StreamError}
use Rattle.pdb_records.specs.declared.modules.ModuleInfo.{ModuleInfo}
use Rattle.pdb_records.specs.declared.symbols.Symbol.{Symbol}
use Rattle.pdb_records.specs.declared.symbols.SymbolData.{SymbolData}
use Rattle.pdb_records.specs.declared.symbols.SymbolData.TheVariants.{Public, Procedure, SeparatedCode, Thunk}
use Rattle.pdb_records.specs.declared.symbols.SymbolData.TheVariants.{InlineSite, Other}
use Rattle.pdb_tables.specs.InOrder.{put, in_order}
use Rattle.pdb_tables.specs.Keyed.{is_lower, is_same_key, firsts_after}
use Rattle.pdb_tables.specs.Pick.{pick, IsPick, IsPicked}
use Rattle.pdb_tables.proofs.PickLemmas.{pick_is_picked}
use Rattle.pdb_tables.proofs.SortLemmas.{all_put}
use Rattle.pdb_functions.specs.declared.merged_contributions.ModuleSectionContribution.{ModuleSectionContribution}
use Rattle.pdb_functions.specs.GlobalFunctions.{GlobalFunction}
use Rattle.pdb_records.specs.Provided.{ProviderInfos}
use Rattle.pdb_functions.specs.FunctionMatches.{procedures_of_module, found_global}
use Rattle.pdb_functions.specs.FunctionMatches.{found_or_global, function_in_contribution, function_over}
use Rattle.pdb_functions.specs.Procedures.{ModuleProcedure, unless_empty, procedure_data, procedure_at, last_counted}
use Rattle.pdb_functions.specs.Procedures.{procedures_from, symbol_procedures, info_procedures, provided_procedures}
use Rattle.pdb_functions.specs.Spans.{contribution_covers, procedure_covers, global_function_covers}
use Rattle.pdb_functions.specs.Starts.{section_offset_cmp}
use Rattle.pdb_functions.specs.SymbolNames.{name_by_symbol, GoesBySymbol}
use Rattle.pdb_functions.proofs.OrderLemmas.{all_in_order}

-- ---- what one symbol shows

-- a procedure is the one of the symbol at a position
abbrev IsOf : ℕ → ModuleProcedure → Type 0
IsOf at p = p.symbol_index.0 ≡ at

-- what isn't empty is of the same symbol
unless_empty_of : (at : ℕ) (p : ModuleProcedure) → IsOf at p → IfSome (unless_empty p) (IsOf at)
unless_empty_of at p is = by_test (nat_lt 0 p.len) where
  by_test : (t : Bool) → IfSome (cond t (Some p) None) (IsOf at)
  by_test true = is
  by_test false = tt

-- what a symbol holds is of that symbol
data_of : (at : ℕ) (last : Option ModuleProcedure) (content : Option SymbolData)
    → IfSome (procedure_data at last content) (IsOf at)
data_of at last (Some (Procedure s)) = unless_empty_of at _ refl
data_of at (Some parent) (Some (SeparatedCode s)) = by_test (is_same_section_offset parent.offset s.parent_offset) where
  code : ModuleProcedure
  code = record {
    offset = s.offset;
    len = s.len;
    name = parent.name;
    symbol_index =
        record { 0 = at };
    end_symbol_index = s.end;
    type_index = parent.type_index;
  }

  by_test : (t : Bool) → IfSome (cond t (unless_empty code) None) (IsOf at)
  by_test true = unless_empty_of at code refl
  by_test false = tt
data_of at None (Some (SeparatedCode s)) = tt
data_of at last (Some (Thunk s)) = unless_empty_of at _ refl
data_of at last (Some (Public s)) = tt
data_of at last (Some (InlineSite s)) = tt
data_of at last (Some Other) = tt
data_of at last None = tt

-- what a symbol shows is of that symbol
shown_of : (at : ℕ) (last : Option ModuleProcedure) (symbol : Symbol) → IfSome (procedure_at at last symbol) (IsOf at)
shown_of at last symbol = by_test (is_code_kind symbol.raw_kind) where
  by_test : (t : Bool) → IfSome (cond t (procedure_data at last symbol.content) None) (IsOf at)
  by_test true = data_of at last symbol.content
  by_test false = tt

-- ---- what all symbols show

-- a procedure is of a symbol at a position or after it
abbrev IsFrom : ℕ → ModuleProcedure → Type 0
IsFrom at p = at ≤ p.symbol_index.0

-- no two are of one symbol
abbrev pub SymbolsDiffer : List ModuleProcedure → Type 0
SymbolsDiffer [] = ⊤
SymbolsDiffer (p ∷ ps) = AllByRecursion (λ q. (p.symbol_index.0 == q.symbol_index.0) ≡ false) ps × SymbolsDiffer ps

-- what is after the next position is after this one
from_earlier : (at : ℕ) (ps : List ModuleProcedure) → AllByRecursion (IsFrom (at + 1)) ps
    → AllByRecursion (IsFrom at) ps
from_earlier at [] all = tt
from_earlier at (p ∷ ps) all = (omega (arith, all.0), from_earlier at ps all.1)

-- what is after a position is of another symbol than the one there
others_differ : (p : ModuleProcedure) (at : ℕ) (ps : List ModuleProcedure) → IsOf at p
    → AllByRecursion (IsFrom (at + 1)) ps → AllByRecursion (λ q. (p.symbol_index.0 == q.symbol_index.0) ≡ false) ps
others_differ p at [] is all = tt
others_differ p at (q ∷ ps) is all = (grind (arith, is, all.0), others_differ p at ps is all.1)

-- the procedures of symbols are from there on
all_from : (at : ℕ) (last : Option ModuleProcedure) (symbols : List Symbol)
    → AllByRecursion (IsFrom at) (procedures_from at last symbols)
all_from at last [] = tt
all_from at last (symbol ∷ symbols) =
    with_first (procedure_at at last symbol)
    (procedures_from (at + 1) (last_counted last (procedure_at at last symbol)) symbols) (shown_of at last symbol)
    (all_from (at + 1) (last_counted last (procedure_at at last symbol)) symbols)
  where
    with_first : (first : Option ModuleProcedure) (ps : List ModuleProcedure) → IfSome first (IsOf at)
        → AllByRecursion (IsFrom (at + 1)) ps → AllByRecursion (IsFrom at) (option_to_list first ++ ps)
    with_first None ps is others = from_earlier at ps others
    with_first (Some p) ps is others = (omega (arith, is), from_earlier at ps others)

-- and no two of them are of one symbol
all_differ : (at : ℕ) (last : Option ModuleProcedure) (symbols : List Symbol)
    → SymbolsDiffer (procedures_from at last symbols)
all_differ at last [] = tt
all_differ at last (symbol ∷ symbols) =
    with_first (procedure_at at last symbol)
    (procedures_from (at + 1) (last_counted last (procedure_at at last symbol)) symbols) (shown_of at last symbol)
    (all_from (at + 1) (last_counted last (procedure_at at last symbol)) symbols)
    (all_differ (at + 1) (last_counted last (procedure_at at last symbol)) symbols)
  where
    with_first : (first : Option ModuleProcedure) (ps : List ModuleProcedure) → IfSome first (IsOf at)
        → AllByRecursion (IsFrom (at + 1)) ps → SymbolsDiffer ps → SymbolsDiffer (option_to_list first ++ ps)
    with_first None ps is others differ = differ
    with_first (Some p) ps is others differ = (others_differ p at ps is others, differ)

-- ---- in order, of each start the first

-- numbers that differ do so either way round
differ_sym : (i j : ℕ) → (i == j) ≡ false → (j == i) ≡ false
differ_sym i j apart = grind (arith, apart)

-- an element put among others, of which none has its symbol
differ_put : (before : ModuleProcedure → ModuleProcedure → Bool) (x : ModuleProcedure) (ys : List ModuleProcedure)
    → AllByRecursion (λ q. (x.symbol_index.0 == q.symbol_index.0) ≡ false) ys → SymbolsDiffer ys
    → SymbolsDiffer (put before x ys)
differ_put before x [] apart differ = (tt, tt)
differ_put before x (y ∷ ys) apart differ = by_test (before y x) (differ_put before x ys apart.1 differ.1) where
  by_test : (t : Bool) → SymbolsDiffer (put before x ys) → SymbolsDiffer (cond t (y ∷ put before x ys) (x ∷ y ∷ ys))
  by_test true rest = (
    all_put before (λ q. (y.symbol_index.0 == q.symbol_index.0) ≡ false) x ys
        (differ_sym x.symbol_index.0 y.symbol_index.0 apart.0) differ.0,
    rest,
  )
  by_test false rest = (apart, differ)

-- elements in order
differ_in_order : (before : ModuleProcedure → ModuleProcedure → Bool) (xs : List ModuleProcedure) → SymbolsDiffer xs
    → SymbolsDiffer (in_order before xs)
differ_in_order before [] differ = tt
differ_in_order before (x ∷ xs) differ =
    differ_put before x (in_order before xs)
    (all_in_order before (λ q. (x.symbol_index.0 == q.symbol_index.0) ≡ false) xs differ.0)
    (differ_in_order before xs differ.1)

-- what holds of all holds of the first of each start
all_firsts : (start : ModuleProcedure → PdbInternalSectionOffset) (P : ModuleProcedure → Type 0)
    (before : Option PdbInternalSectionOffset) (xs : List ModuleProcedure) → AllByRecursion P xs
    → AllByRecursion P (firsts_after section_offset_cmp start before xs)
all_firsts start P before [] all = tt
all_firsts start P before (x ∷ xs) all =
    by_test (is_same_key section_offset_cmp before (start x)) (all_firsts start P before xs all.1)
    (all_firsts start P (Some (start x)) xs all.1) where
      by_test : (t : Bool) → AllByRecursion P (firsts_after section_offset_cmp start before xs)
          → AllByRecursion P (firsts_after section_offset_cmp start (Some (start x)) xs)
          → AllByRecursion P (cond t (firsts_after section_offset_cmp start before xs)
          (x ∷ firsts_after section_offset_cmp start (Some (start x)) xs))
      by_test true same other = same
      by_test false same other = (all.0, other)

-- and the first of each start are of different symbols
differ_firsts : (start : ModuleProcedure → PdbInternalSectionOffset)
    (before : Option PdbInternalSectionOffset) (xs : List ModuleProcedure) → SymbolsDiffer xs
    → SymbolsDiffer (firsts_after section_offset_cmp start before xs)
differ_firsts start before [] differ = tt
differ_firsts start before (x ∷ xs) differ =
    by_test (is_same_key section_offset_cmp before (start x)) (differ_firsts start before xs differ.1)
    (differ_firsts start (Some (start x)) xs differ.1) where
      by_test : (t : Bool) → SymbolsDiffer (firsts_after section_offset_cmp start before xs)
          → SymbolsDiffer (firsts_after section_offset_cmp start (Some (start x)) xs)
          → SymbolsDiffer (cond t (firsts_after section_offset_cmp start before xs) (x ∷ firsts_after section_offset_cmp start (Some (start x)) xs))
      by_test true same other = same
      by_test false same other = (
        all_firsts start (λ q. (x.symbol_index.0 == q.symbol_index.0) ≡ false)
            (Some (start x)) xs differ.0,
        other,
      )

-- the procedures of symbols
symbols_differ : (symbols : List Symbol) → SymbolsDiffer (symbol_procedures symbols)
symbols_differ symbols =
    differ_firsts (λ p. p.offset) None (in_order (is_lower section_offset_cmp (λ p. p.offset)) (procedures_from 0 None symbols))
    (differ_in_order (is_lower section_offset_cmp (λ p. p.offset)) (procedures_from 0 None symbols) (all_differ 0 None symbols))

-- the procedures of a module's records
info_differ : (info : ModuleInfo) → SymbolsDiffer (info_procedures info)
info_differ info = by_fault info.symbols.fault refl where
  by_fault : (fault : Option StreamError) → info.symbols.fault ≡ fault → SymbolsDiffer (info_procedures info)
  by_fault None is = rw is (symbols_differ info.symbols.items)
  by_fault (Some fault) is = rw is tt

-- those of what a provider answers
provided_differ : (answer : Result (Option ModuleInfo) StreamError) → SymbolsDiffer (provided_procedures answer)
provided_differ (Ok (Some info)) = info_differ info
provided_differ (Ok None) = tt
provided_differ (Err fault) = tt

-- those of the module at a module index
pub procedures_differ : (infos : ProviderInfos) (modules : List Module) (m : ℕ)
    → SymbolsDiffer (procedures_of_module infos modules m)
procedures_differ infos modules m = by_module (slice_get modules m) refl where
  by_module : (there : Option Module) → slice_get modules m ≡ there
      → SymbolsDiffer (procedures_of_module infos modules m)
  by_module None is = rw is tt
  by_module (Some there) is = rw is (provided_differ (infos m there))

-- ---- what was found

-- an element is what is found by its symbol
found_by_symbol : (ahead : List ModuleProcedure) (p : ModuleProcedure) (behind : List ModuleProcedure)
    → SymbolsDiffer (ahead ++ p ∷ behind)
    → find (λ q. q.symbol_index.0 == p.symbol_index.0) (ahead ++ p ∷ behind) ≡ Some p
found_by_symbol [] p behind differ = let same : (p.symbol_index.0 == p.symbol_index.0) ≡ true = grind arith in
    rw same refl
found_by_symbol (a ∷ ahead) p behind differ =
    let apart : (a.symbol_index.0 == p.symbol_index.0) ≡ false = at_end ahead differ.0 in
    rw apart (found_by_symbol ahead p behind differ.1)
  where
    at_end : (xs : List ModuleProcedure)
        → AllByRecursion (λ q. (a.symbol_index.0 == q.symbol_index.0) ≡ false) (xs ++ p ∷ behind)
        → (a.symbol_index.0 == p.symbol_index.0) ≡ false
    at_end [] all = all.0
    at_end (x ∷ xs) all = at_end xs all.1

-- what is picked goes by its symbol's name
picked_by_symbol : (over : ModuleProcedure → Bool) (start : ModuleProcedure → ℕ) (ps : List ModuleProcedure)
    (p : ModuleProcedure) → SymbolsDiffer ps → IsPick over start ps p → name_by_symbol p.symbol_index.0 ps ≡ Some p.name
picked_by_symbol over start ps p differ picked =
    let there = found_by_symbol picked.ahead p picked.behind (rw picked.split at differ) in
    ap (option_map (λ q. q.name)) (ap (find (λ q. q.symbol_index.0 == p.symbol_index.0)) picked.split ∙ there)

-- what lies over a section offset in a contribution goes by its symbol's name
in_contribution : (infos : ProviderInfos) (modules : List Module) (c : ModuleSectionContribution)
    (global : Option GlobalFunction) (over : ModuleProcedure → Bool) (start : ModuleProcedure → ℕ)
    → (picked : Option ModuleProcedure) → IsPicked over start (procedures_of_module infos modules c.module_index) picked
    → IfSome (found_or_global c global picked) (GoesBySymbol infos modules)
in_contribution infos modules c global over start (Some p) picked =
    picked_by_symbol over start (procedures_of_module infos modules c.module_index) p
    (procedures_differ infos modules c.module_index) picked
in_contribution infos modules c None over start None picked = tt
in_contribution infos modules c (Some f) over start None picked = by_test (nat_le c.start_offset f.start.offset) where
  by_test : (t : Bool) → IfSome (cond t (Some (found_global c.module_index f)) None) (GoesBySymbol infos modules)
  by_test true = tt
  by_test false = tt

-- what lies over a section offset goes by its symbol's name
pub over_by_symbol : (infos : ProviderInfos) (modules : List Module) (contributions : List ModuleSectionContribution)
    (globals : List GlobalFunction) (section_offset : PdbInternalSectionOffset)
    → IfSome (function_over infos modules contributions globals section_offset) (GoesBySymbol infos modules)
over_by_symbol infos modules contributions globals section_offset =
    of_contribution (find (contribution_covers section_offset) contributions) where
      of_contribution : (c : Option ModuleSectionContribution)
          → IfSome (option_and_then (function_in_contribution infos modules globals section_offset) c)
          (GoesBySymbol infos modules)
      of_contribution None = tt
      of_contribution (Some c) =
          let procedures = procedures_of_module infos modules c.module_index in
          in_contribution infos modules c (pick (global_function_covers section_offset) (λ f. f.start.offset) globals)
          (procedure_covers section_offset) (λ p. p.offset.offset)
          (pick (procedure_covers section_offset) (λ p. p.offset.offset) procedures)
          (pick_is_picked (procedure_covers section_offset) (λ p. p.offset.offset) procedures)
