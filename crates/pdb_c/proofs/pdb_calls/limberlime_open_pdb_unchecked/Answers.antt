use Rattle.std.proofs.Common.{◌∙◌}
use Rattle.pdb_c.proofs.OpeningLemmas.{code_fits, file_left}
use Rattle.pdb_c.proofs.pdb_calls.limberlime_open_pdb_unchecked.Goals as goal

pub returns-in-Ok : goal.returns-in-Ok
returns-in-Ok c = file_left c.args.pdb.now c.in-Ok.field-0 c.close.new.self.held c.open_pdb.new.handle.held c.in-Ok.ensures

pub returns-in-Err : goal.returns-in-Err
returns-in-Err c = rw (c.in-Err.ensures ∙ c.close.ensures) (record {
  why = c.in-Err.refusal;
  is = rw c.code.ensures (code_fits c.in-Err.refusal);
})
