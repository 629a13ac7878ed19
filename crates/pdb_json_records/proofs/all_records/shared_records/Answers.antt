use Rattle.std.proofs.Common.{refl}
use Rattle.std.proofs.lemmas.Result.{err_from_is_err_and}
use Rattle.pdb_json_records.specs.AllRecords.{shared_records_of}
use Rattle.pdb_json_values.proofs.FaultLemmas.{fault_ends}
use Rattle.pdb_json_records.proofs.all_records.shared_records.Goals as goal

pub returns-in_err-address_map : goal.returns-in_err-address_map
unfolding shared_records_of
returns-in_err-address_map c =
    let p = err_from_is_err_and c.from_residual-in_err-address_map.result c.from_residual-in_err-address_map.ensures.1
    in
    rw (p.1, p.2, c.in_ok-sections.ensures) (fault_ends _ _ _ c.in_err-address_map.ensures)

pub returns-in_err-global_symbols : goal.returns-in_err-global_symbols
unfolding shared_records_of
returns-in_err-global_symbols c =
    let p = err_from_is_err_and c.from_residual-in_err-global_symbols.result
    c.from_residual-in_err-global_symbols.ensures.1 in
    rw (p.1, p.2, c.in_ok-sections.ensures, c.in_ok-address_map.ensures)
    (fault_ends _ _ _ c.in_err-global_symbols.ensures)

pub returns-in_err-debug_information : goal.returns-in_err-debug_information
unfolding shared_records_of
returns-in_err-debug_information c =
    let p = err_from_is_err_and c.from_residual-in_err-debug_information.result
    c.from_residual-in_err-debug_information.ensures.1 in
    rw (p.1, p.2, c.in_ok-sections.ensures, c.in_ok-address_map.ensures, c.in_ok-global_symbols.ensures)
    (fault_ends _ _ _ c.in_err-debug_information.ensures)

pub returns-in_err-type_information : goal.returns-in_err-type_information
unfolding shared_records_of
returns-in_err-type_information c =
    let p =
    err_from_is_err_and c.from_residual-in_err-type_information.result
    c.from_residual-in_err-type_information.ensures.1 in
    rw (
      p.1,
      p.2,
      c.in_ok-sections.ensures,
      c.in_ok-address_map.ensures,
      c.in_ok-global_symbols.ensures,
      c.in_ok-debug_information.ensures,
    )
    (fault_ends _ _ _ c.in_err-type_information.ensures)

pub returns-in_err-id_information : goal.returns-in_err-id_information
unfolding shared_records_of
returns-in_err-id_information c =
    let p =
    err_from_is_err_and c.from_residual-in_err-id_information.result
    c.from_residual-in_err-id_information.ensures.1 in
    rw (
      p.1,
      p.2,
      c.in_ok-sections.ensures,
      c.in_ok-address_map.ensures,
      c.in_ok-global_symbols.ensures,
      c.in_ok-debug_information.ensures,
      c.in_ok-type_information.ensures,
    )
    (fault_ends _ _ _ c.in_err-id_information.ensures)

pub returns-in_err-string_table : goal.returns-in_err-string_table
unfolding shared_records_of
returns-in_err-string_table c =
    let p =
    err_from_is_err_and c.from_residual-in_err-string_table.result
    c.from_residual-in_err-string_table.ensures.1 in
    rw (
      p.1,
      p.2,
      c.in_ok-sections.ensures,
      c.in_ok-address_map.ensures,
      c.in_ok-global_symbols.ensures,
      c.in_ok-debug_information.ensures,
      c.in_ok-type_information.ensures,
      c.in_ok-id_information.ensures,
    )
    (fault_ends _ _ _ c.in_err-string_table.ensures)

pub returns : goal.returns
unfolding shared_records_of
returns c =
    rw (
      c.in_ok-sections.ensures,
      c.in_ok-address_map.ensures,
      c.in_ok-global_symbols.ensures,
      c.in_ok-debug_information.ensures,
      c.in_ok-type_information.ensures,
      c.in_ok-id_information.ensures,
      c.in_ok-string_table.ensures,
      c.new-module_infos.ensures.items,
    ) refl
