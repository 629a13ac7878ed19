-- A stricter check that what was read refers to nothing outside it. Each procedure of a module counts, even one that
-- starts where an earlier one does, whose type no answer needs. A walk over the symbols decides it, without a table of
-- starts.
use Rattle.std.specs.Prelude.{ℕ, ◌+◌, Bool, true, not, ◌&&◌, ◌||◌, List, [], ◌∷◌, Option, Some, None, Result}
use Rattle.std.specs.Prelude.{is_some, nat_lt, option_map, if◌then◌else◌}
use Rattle.std.specs.List.{list_all}
use Rattle.std.specs.Option.{option_map_or}
use Rattle.std.specs.Result.{result_unwrap_or}
use Rattle.pdb_records.specs.SymbolKinds.{is_code_kind}
use Rattle.pdb_records.specs.declared.error.StreamError.{StreamError}
use Rattle.pdb_records.specs.declared.modules.ModuleInfo.{ModuleInfo}
use Rattle.pdb_records.specs.declared.symbols.Symbol.{Symbol}
use Rattle.pdb_records.specs.declared.symbols.SymbolData.{SymbolData}
use Rattle.pdb_records.specs.declared.symbols.SymbolData.TheVariants.{Procedure, Thunk}
use Rattle.pdb_records.specs.declared.types.TypeIndex.{TypeIndex}
use Rattle.pdb_inline.specs.Sites.{site_of}
use Rattle.pdb_part_laws.specs.Asked.{alone}
use Rattle.pdb_known.specs.Known.{Known, is_covered, is_read, all_types, all_ids, all_items}
use Rattle.pdb_known.specs.Known.{are_sites_closed, is_type_item_closed, is_id_item_closed}

-- the type that a symbol's content gives to a procedure with code. Separated code gives none: it has the type of a
-- procedure before it
abbrev pub given_type : Option SymbolData → Option TypeIndex
given_type (Some (Procedure s)) = if nat_lt 0 s.len then Some s.type_index else None
given_type (Some (Thunk s)) = if nat_lt 0 s.len then Some (record { 0 = 0 }) else None
given_type other = None

-- the type that a symbol gives to a procedure, if the symbol's kind counts
abbrev pub procedure_type : Symbol → Option TypeIndex
procedure_type symbol = if is_code_kind symbol.raw_kind then given_type symbol.content else None

-- whether the type that a symbol gives to a procedure was read
abbrev pub is_procedure_type_read : Known → Symbol → Bool
is_procedure_type_read known symbol = all_types (is_covered known.types) (alone (procedure_type symbol))

-- whether the id of the inline site that a symbol opens was read
abbrev pub is_inlinee_read : Known → Symbol → Bool
is_inlinee_read known symbol =
    all_ids (is_covered known.ids) (alone (option_map (λ site. site.inlinee) (site_of symbol)))

-- whether the types of all procedures of a module were read, unless its symbols have a fault, and the ids of its inline
-- sites
abbrev pub is_info_strictly_closed : Known → ModuleInfo → Bool
is_info_strictly_closed known info =
    (is_some info.symbols.fault || list_all (is_procedure_type_read known) info.symbols.items)
    && are_sites_closed known info

-- whether a module is strictly closed, by its records
abbrev pub is_module_strictly_closed : Known → Result (Option ModuleInfo) StreamError → Bool
is_module_strictly_closed known answer =
    option_map_or (is_info_strictly_closed known) (result_unwrap_or answer None) true

-- whether each module that was read is strictly closed; `module_index` is that of the first in the list
abbrev pub are_modules_strictly_closed : Known → ℕ → List (Result (Option ModuleInfo) StreamError) → Bool
are_modules_strictly_closed known module_index [] = true
are_modules_strictly_closed known module_index (answer ∷ answers) =
    (not (is_read known module_index) || is_module_strictly_closed known answer)
    && are_modules_strictly_closed known (module_index + 1) answers

-- whether enough was read, by the stricter check of modules
abbrev pub is_strictly_closed : Known → Bool
is_strictly_closed known =
    known.all || (are_modules_strictly_closed known 0 known.records.module_infos && (
    all_items (is_type_item_closed known) known.records.type_information
    && all_items (is_id_item_closed known) known.records.id_information))
