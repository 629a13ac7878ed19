use Rattle.std.proofs.Common.{length}
use Rattle.pdb_tables.proofs.painting.+painted_in_turn.Given as goal

abbrev pub decreases-painted_in_turn : goal.decreases-painted_in_turn
decreases-painted_in_turn g l = length l.segments.now
