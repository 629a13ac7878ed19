use Rattle.pdb_addr2line.proofs.CallLemmas.{same_answers}
use Rattle.pdb_addr2line.proofs.laws.successful_answers_are_those_of_a_fresh_context.Goals as goal

pub returns : goal.returns
returns g c = λ context calls. same_answers g.P.ModuleProvider.info context calls
