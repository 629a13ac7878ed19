use Rattle.pdb_addr2line.proofs.FrameLawLemmas.{ended_in_name}
use Rattle.pdb_addr2line.proofs.laws.frames_end_in_the_function.Goals as goal

pub returns : goal.returns
returns g c = λ s address found frames_info. ended_in_name g.P.ModuleProvider.info s address found frames_info
