-- What a reader of a symbol file that was written is shown is what the source answers.
use Rattle.pdb_symbol_file_laws.proofs.ModuleLineLemmas.{written_shows}
use Rattle.pdb_symbol_file_laws.proofs.shown_answers.a_written_file_shows_answers.Goals as goal

pub returns : goal.returns
returns g c = written_shows g.S.FrameSource.answers
