use Rattle.std.proofs.Common.{rules}
use Rattle.pdb_frames.proofs.extended_infos.ExtendedInfos.line_program.Goals as goal

pub returns-in-Some-clause-answer : goal.returns-in-Some-clause-answer
returns-in-Some-clause-answer g c = let known = c.in-Some.ensures.fits g.records c.requires.0 in search rules
