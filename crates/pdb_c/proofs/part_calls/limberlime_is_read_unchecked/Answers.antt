-- The flag that a question finds is the handle's.
use Rattle.std.proofs.Common.{rules, Ok, Err}
use Rattle.pdb_c.proofs.OpeningLemmas.{code_fits}
use Rattle.pdb_c.proofs.PartLemmas.{flag_agrees, flag_in}
use Rattle.pdb_c.proofs.part_calls.limberlime_is_read_unchecked.Goals as goal

pub returns-in-Ok-clause-answer : goal.returns-in-Ok-clause-answer
returns-in-Ok-clause-answer c = record {
  found = flag_in (Ok c.in-Ok.found);
  agrees = flag_agrees c.args.handle.now.held _ c.args.address (Ok c.in-Ok.found) c.in-Ok.ensures.answer;
  is = search rules;
}

pub returns-in-Err-clause-answer : goal.returns-in-Err-clause-answer
returns-in-Err-clause-answer c = record {
  found = flag_in (Err c.in-Err.refusal);
  agrees = flag_agrees c.args.handle.now.held _ c.args.address (Err c.in-Err.refusal) c.in-Err.ensures.answer;
  is = rw c.code.ensures (code_fits c.in-Err.refusal);
}
