use Rattle.pdb_function_info.proofs.function.function_info.Goals as goal

pub returns-in-Procedure-clause-answer : goal.returns-in-Procedure-clause-answer
returns-in-Procedure-clause-answer g c = rw c.in-Procedure.is c.procedure_info.ensures.answer

pub returns-in-Procedure-clause-failed : goal.returns-in-Procedure-clause-failed
returns-in-Procedure-clause-failed g c = rw c.in-Procedure.is c.procedure_info.ensures.failed
