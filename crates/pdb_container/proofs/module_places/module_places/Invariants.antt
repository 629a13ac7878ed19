-- The places are those that were found and those of the modules that are left.
use Rattle.std.proofs.Common.{◌≡◌, ◌++◌, drop}
use Rattle.pdb_container.specs.ModulePlaces.{places_within}
use Rattle.pdb_container.proofs.module_places.module_places.Given as goal

abbrev pub invariant-loop-place : goal.invariant-loop-place
invariant-loop-place l = places_within l.container l.file_length l.streams
    ≡ l.places.items ++ places_within l.container l.left (drop l.place-index l.streams)
