use Rattle.pdb_tables.proofs.TurnLemmas.{painted_in_turn-last}
use Rattle.pdb_tables.proofs.table_laws.last_painted_gives_the_value.Goals as goal

pub returns : goal.returns
returns g c = painted_in_turn-last
