use Rattle.pdb_addr2line.proofs.AnswerErrorLemmas.{all_hold}
use Rattle.pdb_addr2line.proofs.answer_laws.answers_hold_errors_of_the_records.Goals as goal

pub returns : goal.returns
returns g c = λ state calls. all_hold g.P.ModuleProvider.info state calls
