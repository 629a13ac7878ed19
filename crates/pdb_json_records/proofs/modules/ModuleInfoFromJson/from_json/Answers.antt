use Rattle.std.proofs.Common.{refl}
use Rattle.std.proofs.lemmas.Result.{err_from_is_err_and}
use Rattle.pdb_json_values.proofs.FaultLemmas.{fault_ends}
use Rattle.pdb_json_records.specs.Modules.{info_of}
use Rattle.pdb_json_records.proofs.modules.ModuleInfoFromJson.from_json.Goals as goal

pub returns-in_err-line_program : goal.returns-in_err-line_program
unfolding info_of
returns-in_err-line_program c =
    let p =
    err_from_is_err_and c.from_residual-in_err-line_program.result c.from_residual-in_err-line_program.ensures.1 in
    rw (p.1, p.2, c.in_ok-info.ensures, c.in_ok-symbols.ensures) (fault_ends _ _ _ c.in_err-line_program.ensures)

pub returns-in_err-inlinees : goal.returns-in_err-inlinees
unfolding info_of
returns-in_err-inlinees c =
    let p = err_from_is_err_and c.from_residual-in_err-inlinees.result c.from_residual-in_err-inlinees.ensures.1 in
    rw (p.1, p.2, c.in_ok-info.ensures, c.in_ok-symbols.ensures, c.in_ok-line_program.ensures)
    (fault_ends _ _ _ c.in_err-inlinees.ensures)

pub returns-in_err-imports : goal.returns-in_err-imports
unfolding info_of
returns-in_err-imports c =
    let p = err_from_is_err_and c.from_residual-in_err-imports.result c.from_residual-in_err-imports.ensures.1 in
    rw (
      p.1,
      p.2,
      c.in_ok-info.ensures,
      c.in_ok-symbols.ensures,
      c.in_ok-line_program.ensures,
      c.in_ok-inlinees.ensures,
    ) (fault_ends _ _ _ c.in_err-imports.ensures)

pub returns-in_err-exports : goal.returns-in_err-exports
unfolding info_of
returns-in_err-exports c =
    let p = err_from_is_err_and c.from_residual-in_err-exports.result c.from_residual-in_err-exports.ensures.1 in
    rw (
      p.1,
      p.2,
      c.in_ok-info.ensures,
      c.in_ok-symbols.ensures,
      c.in_ok-line_program.ensures,
      c.in_ok-inlinees.ensures,
      c.in_ok-imports.ensures,
    ) (fault_ends _ _ _ c.in_err-exports.ensures)

pub returns : goal.returns
unfolding info_of
returns c =
    rw (
      c.in_ok-info.ensures,
      c.in_ok-symbols.ensures,
      c.in_ok-line_program.ensures,
      c.in_ok-inlinees.ensures,
      c.in_ok-imports.ensures,
      c.in_ok-exports.ensures,
    ) refl
