use Rattle.std.proofs.Common.{Err}
use Rattle.pdb_c.specs.declared.call_error.CallError.TheVariants.{Closed}
use Rattle.pdb_c.specs.declared.found_frames.FoundFrames.{FoundFrames}
use Rattle.pdb_c.proofs.FrameLemmas.{open_answers, closed_answers, closed_leaves}
use Rattle.pdb_c.proofs.handle.Handle.answer.Goals as goal

pub returns-in-Some-clause-answer : goal.returns-in-Some-clause-answer
returns-in-Some-clause-answer c =
    open_answers c.in-Some.found c.args.self.now.held c.args.question c.in-Some.ensures.answer

pub returns-in-None-clause-answer : goal.returns-in-None-clause-answer
returns-in-None-clause-answer c = closed_answers c.args.self.now.held c.args.question c.in-None.ensures.answer

pub returns-in-None-clause-state : goal.returns-in-None-clause-state
returns-in-None-clause-state c =
    closed_leaves {A = FoundFrames} (Err Closed) c.args.self.now.held _ c.args.question c.in-None.ensures.answer
    c.in-None.ensures.state
