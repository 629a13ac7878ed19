use Rattle.pdb_part_laws.proofs.ChainLemmas.{sizes_agree}
use Rattle.pdb_part_laws.proofs.type_chains.sizes_depend_on_their_chain.Goals as goal

pub returns : goal.returns
returns c = record { sizes = sizes_agree }
