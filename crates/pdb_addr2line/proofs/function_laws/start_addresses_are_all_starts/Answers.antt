use Rattle.pdb_addr2line.proofs.StartLemmas.{starts_are}
use Rattle.pdb_addr2line.proofs.function_laws.start_addresses_are_all_starts.Goals as goal

pub returns : goal.returns
returns g c = λ s address. starts_are g.P.ModuleProvider.info s address
