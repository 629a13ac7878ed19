use Rattle.pdb_known.proofs.AnswerLemmas.{function_at_same, symbol_name_at_same, frames_at_same, blamed_at_same}
use Rattle.pdb_known.proofs.part_answers.a_part_answers_as_the_whole.Goals as goal

pub returns : goal.returns
returns c = record {
  functions = λ info part whole address known. function_at_same info part whole address known;
  names = λ info part whole address known. symbol_name_at_same info part whole address known;
  frames = λ info part whole address known. frames_at_same info part whole address known;
  blame = λ info part whole address known. blamed_at_same info part whole address known;
}
