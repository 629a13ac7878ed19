use Rattle.pdb_addr2line.proofs.FrameSiteLemmas.{frames_nested}
use Rattle.pdb_addr2line.proofs.laws.frames_lie_directly_inside.Goals as goal

pub returns : goal.returns
returns g c = λ s address section_offset module_index p info frames_info level frame inner.
    frames_nested g.P.ModuleProvider.info s address section_offset module_index p info frames_info level frame inner
