-- By the place where the character stands last.
use Rattle.std.proofs.Common.{◌∙◌, arith}
use Rattle.pdb_answer_printer.proofs.LastByteLemmas.{after_last_at, after_last_none}
use Rattle.pdb_answer_printer.proofs.base_names.after_last_byte.Goals as goal

pub returns-in-Some : goal.returns-in-Some
returns-in-Some c =
    let cases = c.in-Some.ensures.cases in
    cases.4 ∙ after_last_at c.args.character c.args.text.now cases.0 cases.1 (omega arith) (omega arith) cases.2

pub returns-in-None : goal.returns-in-None
returns-in-None c =
    after_last_none c.args.character c.args.text.now (omega arith) c.in-None.ensures.cases
