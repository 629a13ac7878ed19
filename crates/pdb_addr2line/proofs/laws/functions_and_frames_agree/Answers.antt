use Rattle.pdb_addr2line.proofs.AgreeLemmas.{agreed}
use Rattle.pdb_addr2line.proofs.laws.functions_and_frames_agree.Goals as goal

pub returns : goal.returns
returns g c = λ s address function frames_info. agreed g.P.ModuleProvider.info s address function frames_info
