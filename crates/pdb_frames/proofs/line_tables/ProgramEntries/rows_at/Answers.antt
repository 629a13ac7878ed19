use Rattle.std.proofs.Common.{rules}
use Rattle.pdb_frames.proofs.line_tables.ProgramEntries.rows_at.Goals as goal

pub returns-in-Some-clause-answer : goal.returns-in-Some-clause-answer
returns-in-Some-clause-answer g c = let cached = c.in-Some.ensures.fits g.records c.requires.0 in search rules
