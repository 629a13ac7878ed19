-- The rest from a place on is the rest of all from there on, and so from each greater place on.
use Rattle.std.proofs.Common.{◌∙◌, ap, arith}
use Rattle.pdb_codeview.specs.Places.{from_last}
use Rattle.pdb_codeview.proofs.PlaceLemmas.{from_last-from_last}
use Rattle.pdb_codeview.proofs.places.walked_to.Goals as goal

pub returns-then-x-asked-clause-onward : goal.returns-then-x-asked-clause-onward
returns-then-x-asked-clause-onward g c =
    let place_of = g.T.HasPlace.place_of in
    λ y up. ap (from_last place_of y) c.from_last.ensures ∙ from_last-from_last place_of c.args.x y c.args.items.now up

pub returns-clause-onward : goal.returns-clause-onward
returns-clause-onward g c =
    let place_of = g.T.HasPlace.place_of in
    λ y up. ap (from_last place_of y) (c.from_last-2.ensures ∙ c.requires c.args.x (omega arith))
    ∙ from_last-from_last place_of c.args.x y c.args.items.now up
