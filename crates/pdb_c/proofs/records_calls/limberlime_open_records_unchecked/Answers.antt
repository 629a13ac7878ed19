use Rattle.std.proofs.Common.{Err, refl, ◌∙◌}
use Rattle.pdb_c.proofs.OpeningLemmas.{code_fits, opens}
use Rattle.pdb_c.proofs.records_calls.limberlime_open_records_unchecked.Goals as goal

pub returns-in-Ok : goal.returns-in-Ok
returns-in-Ok c = opens _ _ _ refl c.in-Ok.ensures

pub returns-in-Err : goal.returns-in-Err
returns-in-Err c = record {
  found = Err c.in-Err.refusal;
  agrees = c.in-Err.ensures.1;
  left = (c.in-Err.ensures.0 ∙ c.close.ensures, rw c.code.ensures (code_fits c.in-Err.refusal));
}
