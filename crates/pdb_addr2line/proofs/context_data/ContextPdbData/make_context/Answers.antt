use Rattle.pdb_addr2line.proofs.context_data.ContextPdbData.make_context.Goals as goal

pub returns-clause-answer : goal.returns-clause-answer
returns-clause-answer c = rw c.default.ensures at c.make_context_with_formatter_flags.ensures.answer
