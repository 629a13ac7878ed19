-- An answer of a session is that over all records, since nothing is still to be read for it.
use Rattle.std.proofs.Common.{arith}
use Rattle.std.proofs.lemmas.Grind.{common_steps}
use Rattle.pdb_session.specs.Session.{needs}
use Rattle.pdb_breakpad.proofs.SessionLemmas.{either}
use Rattle.pdb_breakpad.proofs.frame_source.SessionContextFrameSource.find_frames.Goals as goal

pub returns-in-Ok-clause-answer : goal.returns-in-Ok-clause-answer
returns-in-Ok-clause-answer c = λ whole inputs part made.
    either (needs c.args.self.now.known c.args.address)
    (λ is. let refused = c.in-Ok.ensures.not_read is in cc)
    (λ is. let gives = c.in-Ok.ensures.answer is whole inputs part made in grind (arith, common_steps, gives))
