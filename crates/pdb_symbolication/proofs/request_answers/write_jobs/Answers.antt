-- A job's answer more, with the comma before it.
use Rattle.std.proofs.Common.{◌≡◌, ◌∙◌, ap, refl, sym, ℕ, ◌+◌, ◌<◌, List, ◌++◌, drop, get_or, length, Option}
use Rattle.std.specs.Prelude.{◌==◌}
use Rattle.pdb_symbolication.specs.JsonObjects.{comma_before}
use Rattle.pdb_symbolication.specs.RequestAnswers.{Searched, job_answer, job_answers, searched_by, searched_job}
use Rattle.pdb_symbolication.specs.declared.frame_texts.FrameTexts.{FrameTexts}
use Rattle.pdb_symbolication.specs.declared.request_answers.JobAnswer.{JobAnswer}
use Rattle.pdb_symbolication.specs.declared.requests.Job.{Job}
use Rattle.pdb_symbolication.specs.declared.wanted_modules.WantedModules.{WantedModules}
use Rattle.pdb_symbolication.proofs.JsonLemmas.{count_next, left}
use Rattle.pdb_symbolication.proofs.WriteLemmas.{Goes, fails_amid, goes_amid, goes_as, goes_on}
use Rattle.pdb_symbolication.proofs.request_answers.write_jobs.Goals as goal

-- what is left after the job of this number
rest_of : WantedModules → List (Option FrameTexts) → ℕ → List Job → List ℕ
rest_of wanted found number jobs =
    left (number + 1 == 0) (job_answers wanted found (number + 1) (drop (number + 1) jobs))

-- the answer to a job, as it is made
answer_of : JobAnswer → List ℕ
answer_of answer = job_answer (searched_by answer) answer.job.now.stacks.items

answer_same : (made given : Searched) (one other : Job) → made ≡ given → one ≡ other
    → job_answer given other.stacks.items ≡ job_answer made one.stacks.items
answer_same made given one other same job =
    ap (λ (searched : Searched). job_answer searched other.stacks.items) (sym same)
    ∙ ap (λ (which : Job). job_answer made which.stacks.items) (sym job)

-- the comma before an answer, it and what follows are left
job_next : (wanted : WantedModules) (found : List (Option FrameTexts)) (number : ℕ) (jobs : List Job) (job : Job)
    (answer : JobAnswer) {known after : Option (List ℕ)} {text : List ℕ} → number < length jobs
    → job ≡ get_or jobs number job → searched_by answer ≡ searched_job wanted found number job → answer.job.now ≡ job
    → Goes known after (left (number == 0) (job_answers wanted found number (drop number jobs))) text
    → Goes known after (comma_before (number == 0) ++ (answer_of answer ++ rest_of wanted found number jobs)) text
unfolding rest_of answer_of
job_next wanted found number jobs job answer within is made whose goes =
    let next = count_next (job_answers wanted found)
    (λ number job. job_answer (searched_job wanted found number job) job.stacks.items) (λ number value values. refl)
    jobs number job within is in
    let same = answer_same (searched_by answer) (searched_job wanted found number job) answer.job.now job made whose in
    goes_as (next ∙ ap (λ (bytes : List ℕ). comma_before (number == 0) ++ (bytes ++ rest_of wanted found number jobs))
    same) goes

pub returns-in_err-write_comma : goal.returns-in_err-write_comma
unfolding rest_of
returns-in_err-write_comma g c =
    let wanted = c.args.wanted.now in
    let found = c.args.found.now in
    let number = c.loop-number.number in
    let jobs = c.args.request.now.jobs.items in
    let job = c.job-item.result in
    let is = rw c.deref-job-items.ensures.value at c.job-item.is in
    let within = rw c.deref-job-items.ensures.value at c.loop-number-test.true in
    let next = count_next (job_answers wanted found)
    (λ number job. job_answer (searched_job wanted found number job) job.stacks.items) (λ number value values. refl)
    jobs number job within is in
    fails_amid c.from_residual.result c.from_residual.ensures.0
    (goes_amid (comma_before (number == 0))
    (job_answer (searched_job wanted found number job) job.stacks.items ++ rest_of wanted found number jobs)
    (goes_as next c.loop-number.invariant)
    c.in_err-write_comma.ensures)

pub returns-in_err-write : goal.returns-in_err-write
unfolding answer_of
returns-in_err-write g c =
    let wanted = c.args.wanted.now in
    let found = c.args.found.now in
    let number = c.loop-number.number in
    let jobs = c.args.request.now.jobs.items in
    let is = rw c.deref-job-items.ensures.value at c.job-item.is in
    let within = rw c.deref-job-items.ensures.value at c.loop-number-test.true in
    let answer = c.of.result in
    fails_amid c.from_residual-in_err-write.result c.from_residual-in_err-write.ensures.0
    (goes_amid (answer_of answer) (rest_of wanted found number jobs)
    (goes_on (g.W.Write.contents c.write_comma.new.out) (comma_before (number == 0))
    (answer_of answer ++ rest_of wanted found number jobs)
    (job_next wanted found number jobs c.job-item.result answer within is c.of.ensures.searched c.of.ensures.job
    c.loop-number.invariant)
    c.in_ok-write_comma.ensures)
    c.in_err-write.ensures)

pub loop-number-preserved : goal.loop-number-preserved
unfolding rest_of answer_of
loop-number-preserved g c =
    let wanted = c.args.wanted.now in
    let found = c.args.found.now in
    let number = c.loop-number.number in
    let jobs = c.args.request.now.jobs.items in
    let is = rw c.deref-job-items.ensures.value at c.job-item.is in
    let within = rw c.deref-job-items.ensures.value at c.loop-number-test.true in
    let answer = c.of.result in
    goes_on (g.W.Write.contents c.write.new.out) (answer_of answer) (rest_of wanted found number jobs)
    (goes_on (g.W.Write.contents c.write_comma.new.out) (comma_before (number == 0))
    (answer_of answer ++ rest_of wanted found number jobs)
    (job_next wanted found number jobs c.job-item.result answer within is c.of.ensures.searched c.of.ensures.job
    c.loop-number.invariant)
    c.in_ok-write_comma.ensures)
    c.in_ok-write.ensures
