use Rattle.std.proofs.Common.{refl}
use Rattle.std.proofs.lemmas.Result.{err_from_is_err_and}
use Rattle.pdb_json_values.proofs.FaultLemmas.{fault_ends}
use Rattle.pdb_json_records.specs.Types.{class_of}
use Rattle.pdb_json_records.proofs.types.class.Goals as goal

pub returns-in_err-member-3 : goal.returns-in_err-member-3
unfolding class_of
returns-in_err-member-3 c =
    let p = err_from_is_err_and c.from_residual-in_err-member-3.result c.from_residual-in_err-member-3.ensures.1 in
    rw (p.1, p.2, c.in_ok-member.ensures, c.in_ok-member-2.ensures) (fault_ends _ _ _ c.in_err-member-3.ensures)

pub returns : goal.returns
unfolding class_of
returns c = rw (
  c.in_ok-member.ensures,
  c.in_ok-member-2.ensures,
  c.in_ok-member-3.ensures,
  c.in_ok-member-4.ensures,
  c.in_ok-member-5.ensures,
) refl
