use Rattle.pdb_functions.specs.FunctionMatches.{function_match}
use Rattle.pdb_addr2line.proofs.FoundLemmas.{over_goes_by_symbol}
use Rattle.pdb_addr2line.proofs.context.Context.find_frames.Goals as goal

pub returns-in-Some-2-clause-answer : goal.returns-in-Some-2-clause-answer
returns-in-Some-2-clause-answer g c =
    let section_offset = rw (c.in-Some.is) at c.section_offset_of.ensures in
    let found = rw (c.in-Some-2.is) at c.in_ok-found_over.ensures.answer in
    rw (← section_offset, ← found) (rw c.found_over.ensures.unchanged at c.frames_answer.ensures.answer)

pub returns-in-Some-2-clause-failed : goal.returns-in-Some-2-clause-failed
returns-in-Some-2-clause-failed g c =
    let section_offset = rw (c.in-Some.is) at c.section_offset_of.ensures in
    let found = rw (c.in-Some-2.is) at c.in_ok-found_over.ensures.answer in
    rw (← section_offset, ← found) (rw c.found_over.ensures.unchanged at c.frames_answer.ensures.failed)

pub returns-in-Some-2-clause-code_failed : goal.returns-in-Some-2-clause-code_failed
returns-in-Some-2-clause-code_failed g c =
    let section_offset = rw (c.in-Some.is) at c.section_offset_of.ensures in
    let found = rw (c.in-Some-2.is) at c.in_ok-found_over.ensures.answer in
    rw (← section_offset, ← found) (rw c.found_over.ensures.unchanged at c.frames_answer.ensures.code_failed)

pub frames_answer-requires : goal.frames_answer-requires
frames_answer-requires g c =
    let found = rw (c.in-Some-2.is) at c.in_ok-found_over.ensures.answer in
    record {
      named = rw c.found_over.ensures.unchanged
          (over_goes_by_symbol g.P.ModuleProvider.info c.args.self.now.inputs c.in-Some.section_offset
          (function_match c.in-Some-2.found) found);
    }
