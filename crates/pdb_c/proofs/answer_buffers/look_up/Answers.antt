use Rattle.pdb_addr2line.proofs.GainLemmas.{gains_by_one}
use Rattle.pdb_c.specs.Questions.{infos}
use Rattle.pdb_c.proofs.answer_buffers.look_up.Goals as goal

pub returns-in-Ok-clause-gains : goal.returns-in-Ok-clause-gains
returns-in-Ok-clause-gains c =
    let found = c.find_named_function.ensures in
    gains_by_one infos c.args.context.now c.find_named_function.new.self found.inputs found.broken found.code_failed

pub returns-clause-gains : goal.returns-clause-gains
returns-clause-gains c =
    let found = c.find_named_function.ensures in
    gains_by_one infos c.args.context.now c.find_named_function.new.self found.inputs found.broken found.code_failed
