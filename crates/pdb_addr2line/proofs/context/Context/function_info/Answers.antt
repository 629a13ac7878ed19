use Rattle.pdb_addr2line.proofs.context.Context.function_info.Goals as goal

pub returns-clause-answer : goal.returns-clause-answer
returns-clause-answer g c =
    rw (← c.self.view_is) (rw (c.self.invariant.global_functions) at c.function_info.ensures.answer)

pub returns-clause-failed : goal.returns-clause-failed
returns-clause-failed g c =
    rw (← c.self.view_is) (rw (c.self.invariant.global_functions) at c.function_info.ensures.failed)
