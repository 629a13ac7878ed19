use Rattle.pdb_addr2line.proofs.context.Context.frames_answer.Goals as goal

pub returns-in-Ok-clause-answer : goal.returns-in-Ok-clause-answer
returns-in-Ok-clause-answer g c = rw (rw c.readable_info.ensures.unchanged at c.in-Ok.ensures.answer)

pub returns-in-Ok-clause-failed : goal.returns-in-Ok-clause-failed
returns-in-Ok-clause-failed g c = rw c.readable_info.ensures.unchanged at c.in-Ok.ensures.failed

pub returns-in_ok-error_to_answer-in-Err-clause-answer :
    goal.returns-in_ok-error_to_answer-in-Err-clause-answer
returns-in_ok-error_to_answer-in-Err-clause-answer g c = λ other.
    let answered = c.in_ok-error_to_answer-in-Err.ensures in
    let refused = rw c.readable_info.ensures.unchanged at (c.in-Err.ensures.answer answered.no_want_of_memory) in
    rw (
      refused,
      answered.answer,
      c.in_ok-blamed-in-Err.ensures.answer,
      c.part_blamed.ensures.unchanged,
      c.frames_info.ensures.code_failed,
      c.frames_info.ensures.inputs,
      c.readable_info.ensures.unchanged,
    )

pub returns-in_ok-error_to_answer-in-Err-clause-failed :
    goal.returns-in_ok-error_to_answer-in-Err-clause-failed
returns-in_ok-error_to_answer-in-Err-clause-failed g c = λ other.
    let answered = c.in_ok-error_to_answer-in-Err.ensures in
    rw (answered.state, c.part_blamed.ensures.unchanged)
    (rw c.readable_info.ensures.unchanged at (c.in-Err.ensures.failed answered.no_want_of_memory))
