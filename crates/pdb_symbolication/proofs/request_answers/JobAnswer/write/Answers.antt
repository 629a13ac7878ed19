-- The stacks, between what stands before and after them.
use Rattle.std.proofs.Common.{◌≡◌, ◌∙◌, sym, ℕ, List, ◌++◌, codes, map, Option}
use Rattle.pdb_symbolication.specs.Findings.{found_modules}
use Rattle.pdb_symbolication.specs.JsonObjects.{separated}
use Rattle.pdb_symbolication.specs.RequestAnswers.{job_answer, searched_by, stack_array, stacks_end}
use Rattle.pdb_symbolication.proofs.AnswerTextLemmas.{job_parts}
use Rattle.pdb_symbolication.proofs.WriteLemmas.{Goes, goes_first, goes_as, fails_amid}
use Rattle.pdb_symbolication.proofs.WriteLemmas.{goes_amid, goes_end, goes_no_more, goes_on}
use Rattle.pdb_symbolication.proofs.request_answers.JobAnswer.write.Goals as goal
use Rattle.pdb_symbolication.specs.declared.request_answers.JobAnswer.{JobAnswer}

stacks_of : JobAnswer → List ℕ
stacks_of answer = separated (map (stack_array (searched_by answer)) answer.job.now.stacks.items)

-- at first all of the answer is left
first_of : (known : Option (List ℕ)) (answer : JobAnswer)
    → Goes known known (codes "{\"stacks\":[" ++ (stacks_of answer ++ stacks_end (searched_by answer)))
    (job_answer (searched_by answer) answer.job.now.stacks.items)
unfolding stacks_of
first_of known answer =
    let searched = searched_by answer in
    goes_as (sym (job_parts (stacks_of answer) (found_modules searched.searches searched.found searched.memory_map)))
    (goes_first known (job_answer searched answer.job.now.stacks.items))

pub returns-in_err-write_whole : goal.returns-in_err-write_whole
unfolding stacks_of
returns-in_err-write_whole g c =
    let answer = c.args.self in
    fails_amid c.from_residual.result c.from_residual.ensures.0
    (goes_amid (codes "{\"stacks\":[") (stacks_of answer ++ stacks_end (searched_by answer))
    (first_of (g.W.Write.contents c.args.out.now) answer) c.in_err-write_whole.ensures)

pub returns-in_err-write_stacks : goal.returns-in_err-write_stacks
unfolding stacks_of
returns-in_err-write_stacks g c =
    let answer = c.args.self in
    fails_amid c.from_residual-in_err-write_stacks.result c.from_residual-in_err-write_stacks.ensures.0
    (goes_amid (stacks_of answer) (stacks_end (searched_by answer))
    (goes_on (g.W.Write.contents c.write_whole.new.out) (codes "{\"stacks\":[")
    (stacks_of answer ++ stacks_end (searched_by answer))
    (first_of (g.W.Write.contents c.args.out.now) answer) c.in_ok-write_whole.ensures)
    c.in_err-write_stacks.ensures)

pub returns-in_err-end : goal.returns-in_err-end
unfolding stacks_of
returns-in_err-end g c =
    let answer = c.args.self in
    fails_amid c.from_residual-in_err-end.result c.from_residual-in_err-end.ensures.0
    (goes_no_more (goes_on (g.W.Write.contents c.write_stacks.new.out) (stacks_of answer)
    (stacks_end (searched_by answer))
    (goes_on (g.W.Write.contents c.write_whole.new.out) (codes "{\"stacks\":[")
    (stacks_of answer ++ stacks_end (searched_by answer))
    (first_of (g.W.Write.contents c.args.out.now) answer) c.in_ok-write_whole.ensures)
    c.in_ok-write_stacks.ensures))

pub returns : goal.returns
unfolding stacks_of
returns g c =
    let answer = c.args.self in
    let end : stacks_end (searched_by answer) ≡ c.as_bytes.result.now =
    sym c.in_ok-end.ensures ∙ sym c.as_bytes.ensures.value in
    goes_end c.write_whole-2.result (g.W.Write.contents c.write_whole-2.new.out) c.as_bytes.result.now
    (goes_as end (goes_on (g.W.Write.contents c.write_stacks.new.out) (stacks_of answer)
    (stacks_end (searched_by answer))
    (goes_on (g.W.Write.contents c.write_whole.new.out) (codes "{\"stacks\":[")
    (stacks_of answer ++ stacks_end (searched_by answer))
    (first_of (g.W.Write.contents c.args.out.now) answer) c.in_ok-write_whole.ensures)
    c.in_ok-write_stacks.ensures))
    c.write_whole-2.ensures
