-- Of one element or none all is left.
use Rattle.std.proofs.Common.{◌∙◌, sym}
use Rattle.pdb_codeview.proofs.PlaceLemmas.{from_last-short}
use Rattle.pdb_codeview.proofs.places.from_last.Goals as goal

pub returns-in_default : goal.returns-in_default
returns-in_default g c =
    sym (c.loop-rest.invariant ∙ from_last-short g.T.HasPlace.place_of c.args.x c.loop-rest.rest.now
    c.in_default.len_below)
