use Rattle.std.proofs.Common.{rules}
use Rattle.pdb_c.specs.AnswerBuffers.{shown_result}
use Rattle.pdb_c.specs.Questions.{answer_of_handle}
use Rattle.pdb_c.specs.declared.found_frames.Question.TheVariants.{Function}
use Rattle.pdb_c.proofs.FrameLemmas.{handle_alike, shown_agrees, shown_alike}
use Rattle.pdb_c.proofs.frame_calls.limberlime_find_function_unchecked.Goals as goal

pub returns : goal.returns
returns c =
    let found = c.answer-found.result in
    let held = c.args.handle.now.held in
    let asked = Function c.args.address in
    record {
      found = shown_result found;
      agrees = shown_agrees found (answer_of_handle held asked) c.answer-found.ensures.answer;
      left = search rules;
      holds = handle_alike found (shown_result found) held asked _ (shown_alike found) c.answer-found.ensures.state;
    }
