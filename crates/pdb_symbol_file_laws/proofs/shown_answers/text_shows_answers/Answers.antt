-- What a reader of a symbol file's text is shown is what the source answers.
use Rattle.pdb_symbol_file_laws.proofs.AnswerLemmas.{text_shows}
use Rattle.pdb_symbol_file_laws.proofs.shown_answers.text_shows_answers.Goals as goal

pub returns : goal.returns
returns g c = text_shows g.S.FrameSource.answers
