-- How many modules there are.
use Rattle.std.proofs.Common.{◌≡◌, ℕ, suc, List, [], ◌∷◌, length, refl, ap}
use Rattle.pdb_msf.specs.Msf.{Msf}
use Rattle.pdb_dbi.specs.declared.module_substream.ModuleStream.{ModuleStream}
use Rattle.pdb_container.specs.ModulePlaces.{left_behind, module_places, places_within}

-- each module has a place
count_within : (msf : Msf) (left : ℕ) (places : List ModuleStream) → length (places_within msf left places) ≡ length places
count_within msf left [] = refl
count_within msf left (place ∷ places) = ap suc (count_within msf (left_behind msf left place) places)

pub count_of_places : (msf : Msf) (places : List ModuleStream) → length (module_places msf places) ≡ length places
count_of_places msf places = count_within msf (length msf.file) places
