use Rattle.pdb_addr2line.proofs.context.Context.frames_info.Goals as goal

pub returns-clause-answer : goal.returns-clause-answer
returns-clause-answer g c =
    let records = rw (← c.self.view_is) at c.requires.records in
    rw (← c.self.view_is)
    (rw (c.self.invariant.global_functions, records) at c.frames_info.ensures.answer)

pub returns-clause-failed : goal.returns-clause-failed
returns-clause-failed g c =
    let records = rw (← c.self.view_is) at c.requires.records in
    rw (← c.self.view_is)
    (rw (c.self.invariant.global_functions, records) at c.frames_info.ensures.failed)
