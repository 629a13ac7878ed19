-- What stayed so far, and what stays of what is left, is what stays of all.
use Rattle.std.proofs.Common.{◌≡◌, ◌++◌, drop}
use Rattle.std.specs.Prelude.{None}
use Rattle.pdb_codeview.specs.Places.{firsts_after}
use Rattle.pdb_codeview.proofs.places.first_neighbours.Given as goal

abbrev pub invariant-loop-item : goal.invariant-loop-item
invariant-loop-item g l =
    let place_of = g.T.HasPlace.place_of in
    l.counted.items ++ firsts_after place_of l.before (drop l.item-index l.items) ≡ firsts_after place_of None l.items
