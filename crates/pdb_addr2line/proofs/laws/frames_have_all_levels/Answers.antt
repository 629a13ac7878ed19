use Rattle.pdb_addr2line.proofs.FrameLevelLemmas.{frames_by_level}
use Rattle.pdb_addr2line.proofs.laws.frames_have_all_levels.Goals as goal

pub returns : goal.returns
returns g c = λ s address section_offset found frames_info.
    frames_by_level g.P.ModuleProvider.info s address section_offset found frames_info
