-- The answers to the jobs, between what stands before and after them.
use Rattle.std.proofs.Common.{sym, ℕ, List, [], ◌++◌, append-nil, codes, Option}
use Rattle.pdb_symbolication.specs.JsonObjects.{separated}
use Rattle.pdb_symbolication.specs.RequestAnswers.{answer_text, job_answers}
use Rattle.pdb_symbolication.specs.declared.frame_texts.FrameTexts.{FrameTexts}
use Rattle.pdb_symbolication.specs.declared.requests.SymbolicationRequest.{SymbolicationRequest}
use Rattle.pdb_symbolication.specs.declared.wanted_modules.WantedModules.{WantedModules}
use Rattle.pdb_symbolication.proofs.AnswerTextLemmas.{answer_parts}
use Rattle.pdb_symbolication.proofs.WriteLemmas.{Goes, goes_first, goes_as}
use Rattle.pdb_symbolication.proofs.WriteLemmas.{fails_amid, goes_amid, goes_flushed, goes_on}
use Rattle.pdb_symbolication.proofs.request_answers.write_answer.Goals as goal

-- at first all of the answer is left
first_of : (known : Option (List ℕ)) (request : SymbolicationRequest) (wanted : WantedModules) (found : List (Option FrameTexts))
    → Goes known known (codes "{\"results\":[" ++ (separated (job_answers wanted found 0 request.jobs.items)
    ++ codes "]}\n")) (answer_text request wanted found)
first_of known request wanted found =
    goes_as (sym (answer_parts (separated (job_answers wanted found 0 request.jobs.items))))
    (goes_first known (answer_text request wanted found))

pub returns-in_err-write_whole : goal.returns-in_err-write_whole
returns-in_err-write_whole g c =
    let jobs = separated (job_answers c.args.wanted.now c.args.found.now 0 c.args.request.now.jobs.items) in
    record {
      answer = fails_amid c.from_residual.result c.from_residual.ensures.0
          (goes_amid (codes "{\"results\":[") (jobs ++ codes "]}\n")
          (first_of (g.W.Write.contents c.args.out.now) c.args.request.now c.args.wanted.now c.args.found.now)
          c.in_err-write_whole.ensures);
    }

pub returns-in_err-write_jobs : goal.returns-in_err-write_jobs
returns-in_err-write_jobs g c =
    let jobs = separated (job_answers c.args.wanted.now c.args.found.now 0 c.args.request.now.jobs.items) in
    record {
      answer = fails_amid c.from_residual-in_err-write_jobs.result c.from_residual-in_err-write_jobs.ensures.0
          (goes_amid jobs (codes "]}\n")
          (goes_on (g.W.Write.contents c.write_whole.new.out) (codes "{\"results\":[") (jobs ++ codes "]}\n")
          (first_of (g.W.Write.contents c.args.out.now) c.args.request.now c.args.wanted.now c.args.found.now)
          c.in_ok-write_whole.ensures)
          c.in_err-write_jobs.ensures);
    }

pub returns-in_err-write_whole-2 : goal.returns-in_err-write_whole-2
returns-in_err-write_whole-2 g c =
    let jobs = separated (job_answers c.args.wanted.now c.args.found.now 0 c.args.request.now.jobs.items) in
    record {
      answer = fails_amid c.from_residual-in_err-write_whole-2.result c.from_residual-in_err-write_whole-2.ensures.0
          (goes_amid (codes "]}\n") []
          (goes_as (sym (append-nil (codes "]}\n")))
          (goes_on (g.W.Write.contents c.write_jobs.new.out) jobs (codes "]}\n")
          (goes_on (g.W.Write.contents c.write_whole.new.out) (codes "{\"results\":[") (jobs ++ codes "]}\n")
          (first_of (g.W.Write.contents c.args.out.now) c.args.request.now c.args.wanted.now c.args.found.now)
          c.in_ok-write_whole.ensures)
          c.in_ok-write_jobs.ensures))
          c.in_err-write_whole-2.ensures);
    }

pub returns : goal.returns
returns g c =
    let jobs = separated (job_answers c.args.wanted.now c.args.found.now 0 c.args.request.now.jobs.items) in
    record {
      answer = goes_flushed c.flush.result (g.W.Write.contents c.flush.new.self)
          (goes_on (g.W.Write.contents c.write_whole-2.new.out) (codes "]}\n") []
          (goes_as (sym (append-nil (codes "]}\n")))
          (goes_on (g.W.Write.contents c.write_jobs.new.out) jobs (codes "]}\n")
          (goes_on (g.W.Write.contents c.write_whole.new.out) (codes "{\"results\":[") (jobs ++ codes "]}\n")
          (first_of (g.W.Write.contents c.args.out.now) c.args.request.now c.args.wanted.now c.args.found.now)
          c.in_ok-write_whole.ensures)
          c.in_ok-write_jobs.ensures))
          c.in_ok-write_whole-2.ensures)
          c.flush.ensures.bytes;
    }
