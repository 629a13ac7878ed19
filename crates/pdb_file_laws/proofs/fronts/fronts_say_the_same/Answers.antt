use Rattle.pdb_file_laws.proofs.SameFrontLemmas.{front_same, places_same, streams_same}
use Rattle.pdb_file_laws.proofs.fronts.fronts_say_the_same.Goals as goal

pub returns : goal.returns
returns c = record { records = front_same; modules = streams_same; places = places_same }
