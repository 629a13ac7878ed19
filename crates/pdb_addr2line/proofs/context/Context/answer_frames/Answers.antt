use Rattle.pdb_addr2line.proofs.FunctionLemmas.{on_error}
use Rattle.pdb_addr2line.proofs.GainLemmas.{gains_by_one}
use Rattle.pdb_addr2line.proofs.context.Context.answer_frames.Goals as goal

pub returns-in_err-unless_out_of_memory-in-Err-clause-gains :
    goal.returns-in_err-unless_out_of_memory-in-Err-clause-gains
returns-in_err-unless_out_of_memory-in-Err-clause-gains g c =
    let code = c.in-Err.ensures.unchanged c.in_err-unless_out_of_memory-in-Err.ensures in
    on_error _ (gains_by_one g.P.ModuleProvider.info c.args.self.now c.find_frames.new.self
    c.find_frames.ensures.inputs c.find_frames.ensures.broken code)
