use Rattle.std.proofs.Common.{refl}
use Rattle.pdb_addr2line.proofs.FunctionLemmas.{on_error}
use Rattle.pdb_addr2line.proofs.GainLemmas.{gains_by_one}
use Rattle.pdb_addr2line.proofs.context.Context.answer_signature.Goals as goal

pub returns-in_err-unless_out_of_memory-in-Err-clause-gains :
    goal.returns-in_err-unless_out_of_memory-in-Err-clause-gains
returns-in_err-unless_out_of_memory-in-Err-clause-gains g c =
    rw (← c.self.view_is) (on_error _ (gains_by_one g.P.ModuleProvider.info _ _
    (rw c.format_function.ensures.type_inputs refl) (c.args.module_index, c.format_function.ensures.broken) refl))
