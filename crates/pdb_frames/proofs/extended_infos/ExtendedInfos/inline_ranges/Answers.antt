use Rattle.std.proofs.Common.{rules}
use Rattle.pdb_frames.proofs.extended_infos.ExtendedInfos.inline_ranges.Goals as goal

pub returns-in-Some : goal.returns-in-Some
returns-in-Some g c = let known = c.in-Some.ensures.fits g.records c.requires.0 in search rules
