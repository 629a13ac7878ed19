-- What is left of all is what is left of the rest, which grows shorter.
use Rattle.std.proofs.Common.{◌≡◌, length}
use Rattle.pdb_codeview.specs.Places.{from_last}
use Rattle.pdb_codeview.proofs.places.from_last.Given as goal

abbrev pub invariant-loop-rest : goal.invariant-loop-rest
invariant-loop-rest g l = from_last g.T.HasPlace.place_of l.x l.items ≡ from_last g.T.HasPlace.place_of l.x l.rest

abbrev pub decreases-loop-rest : goal.decreases-loop-rest
decreases-loop-rest g l = length l.rest
