use Rattle.std.proofs.Common.{rules}
use Rattle.pdb_frames.proofs.procedure_ranges.ProcedureRanges.stack.Goals as goal

pub returns-in-Some-clause-answer : goal.returns-in-Some-clause-answer
returns-in-Some-clause-answer g c = let ranges = c.in-Some.ensures.fits g.records c.requires.1.0 in search rules

pub returns-in_err-insert-clause-is_cache : goal.returns-in_err-insert-clause-is_cache
returns-in_err-insert-clause-is_cache g c = c.insert.ensures.fits g.records c.requires.1.0 (search rules)

pub returns-clause-is_cache : goal.returns-clause-is_cache
returns-clause-is_cache g c = c.insert.ensures.fits g.records c.requires.1.0 (rw c.procedure_key-key.ensures (search rules))
