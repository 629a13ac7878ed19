-- Printing, turn by turn.
use Rattle.std.proofs.Common.{◌≡◌, ◌^◌, ℕ, suc, ◌+◌, ◌<◌, Bool, true, false, nat_eq, List, [], ◌∷◌, ◌++◌, refl}
use Rattle.std.proofs.Common.{sym, ap, ◌∙◌, arith}
use Rattle.std.specs.Prelude.{None, is_some, Ok, Err}
use Rattle.pdb_records.specs.declared.types.TypeData.{TypeData}
use Rattle.pdb_types.specs.ReadError.{ReadErrorView}
use Rattle.pdb_type_texts.specs.Signatures.{signature, signature_by_type}
use Rattle.std.specs.List.{AllByRecursion}
use Rattle.pdb_types.specs.declared.flags.TypeFormatterFlags.{TypeFormatterFlags}
use Rattle.pdb_types.specs.declared.read_error.Part.{Part}
use Rattle.pdb_types.specs.FailedParts.{Parts}
use Rattle.pdb_type_texts.specs.declared.tasks.Task as tasks
use Rattle.pdb_type_texts.specs.declared.tasks.Pending.{Pending}
use Rattle.pdb_type_texts.specs.declared.tasks.Pending.TheVariants.{Print, Close, EndCatch, EndBuffer}
use Rattle.pdb_type_texts.specs.BrokenParts.{IsBroken, with_parts, AddsBroken}
use Rattle.pdb_type_texts.specs.Documents.{Document, Run, run, then_by}
use Rattle.pdb_type_texts.specs.PrintInputs.{PrintInputs}
use Rattle.pdb_type_texts.specs.Plans.{Plan, Done, Later, Seq, Buffered, Catch, refusal}
use Rattle.pdb_type_texts.specs.Rules.{rule}
use Rattle.pdb_type_texts.specs.Unfolding.{Unfolds, Runs, done, later, seq, buffered, catch}
use Rattle.pdb_type_texts.specs.Progress.{Stage, beginning, with_step, Opens, open_in, task_plan, stage_run, ended_run}
use Rattle.pdb_type_texts.specs.Progress.{IsPassedOver, Ended}
use Rattle.pdb_type_printer.specs.PendingPlans.{PendingPlan, Ends, Counts, steps_left, Goes, plans, Advances, Begins}
use Rattle.pdb_type_printer.specs.PendingPlans.{Stands}
use Rattle.pdb_type_texts.proofs.RuleLemmas.{IsBelow}
use Rattle.pdb_type_printer.proofs.TurnLemmas.{same_run}
use Rattle.pdb_type_texts.proofs.DocumentLemmas.{document-unfolds}
use Rattle.pdb_type_printer.proofs.GoesLemmas.{goes_over, goes_closing, goes_caught, goes_held_back}
use Rattle.pdb_type_texts.proofs.MetLemmas.{with_parts-append}

-- how many steps a plan takes, by how it unfolds
unfolding-steps : {w : PrintInputs} {p : Plan} {d : Document} → Unfolds w p d → ℕ
unfolding-steps done = 1
unfolding-steps (later u) = unfolding-steps u + 2
unfolding-steps (seq u v) = suc (unfolding-steps u + unfolding-steps v)
unfolding-steps (buffered u) = suc (unfolding-steps u)
unfolding-steps (catch u) = suc (unfolding-steps u)

-- a plan takes as many steps whatever way it is seen to unfold
same-steps : {w : PrintInputs} {p : Plan} {a b : Document} (u : Unfolds w p a) (v : Unfolds w p b)
    → unfolding-steps u ≡ unfolding-steps v
unfolding unfolding-steps
same-steps done done = refl
same-steps (later u) (later v) = ap (λ n. n + 2) (same-steps u v)
same-steps (seq u u') (seq v v') = let a = same-steps u v in let b = same-steps u' v' in cc
same-steps (buffered u) (buffered v) = ap suc (same-steps u v)
same-steps (catch u) (catch v) = ap suc (same-steps u v)

-- how many steps a plan takes
plan-steps : (w : PrintInputs) → IsBelow (2 ^ 32) w → Plan → ℕ
plan-steps w below p = unfolding-steps (document-unfolds w below p)

-- that is a count of the steps that plans take
plan-counts : (w : PrintInputs) (below : IsBelow (2 ^ 32) w) → Counts w (plan-steps w below)
unfolding plan-steps unfolding-steps
plan-counts w below = record {
  done = λ d. same-steps (document-unfolds w below (Done d)) done;
  later = λ inside task. same-steps (document-unfolds w below (Later inside task))
      (later (document-unfolds w below (rule w inside task)));
  seq = λ p q. same-steps (document-unfolds w below (Seq p q))
      (seq (document-unfolds w below p) (document-unfolds w below q));
  buffered = λ p u v. same-steps (document-unfolds w below (Buffered p u v)) (buffered (document-unfolds w below p));
  catch = λ p. same-steps (document-unfolds w below (Catch p)) (catch (document-unfolds w below p));
}

-- how many steps are left of what is still to be done
pub left : (w : PrintInputs) → IsBelow (2 ^ 32) w → List PendingPlan → ℕ
left w below k = steps_left (plan-steps w below) k

-- fewer are left after a step
pub left-falls : (w : PrintInputs) (below : IsBelow (2 ^ 32) w) (k k' : List PendingPlan) (c c' : Run)
    → Goes w 1 k c k' c' → left w below k' < left w below k
unfolding left
left-falls w below k k' c c' goes = let a = goes.falls (plan-steps w below) (plan-counts w below) in omega arith

-- what was next has ended or was passed over
step-ended : (w : PrintInputs) (step : Pending) (rest : List Pending) (c c' : Run)
    → ((task : tasks.Task) → step ≡ Print task → is_some c.fault ≡ true) → c' ≡ ended_run w.flags step c
    → Goes w 1 (plans w (step ∷ rest)) c (plans w rest) c'
step-ended w (Print task) rest c c' over is =
    rw is (goes_over w (task_plan w (open_in rest) task) (plans w rest) c (over task refl))
step-ended w EndCatch rest c c' over is = goes_caught w (plans w rest) c c' is
step-ended w (EndBuffer mark attributes) rest c c' over is = goes_held_back w mark _ _ (plans w rest) c c' is
step-ended w _ rest c c' over is = rw is (goes_closing w (plans w rest) c)

-- what is passed over is passed over for a failure
over-failed : (step : Pending) (s : Stage) → IsPassedOver step s → (task : tasks.Task) → step ≡ Print task
    → is_some s.failure ≡ true
over-failed (Print other) s over task is = over
over-failed _ s over task is = cc

-- a stage whose next step has ended or was passed over
pub ended-goes : (w : PrintInputs) (flags : TypeFormatterFlags) (old new : Stage) (f : Parts) → w.flags ≡ flags
    → Ended flags old new → Goes w 1 (plans w old.steps) (stage_run old f) (plans w new.steps) (stage_run new f)
ended-goes w flags old new f same_flags ended =
    rw ended.taken (step-ended w ended.step new.steps (stage_run old f) (stage_run new f)
    (over-failed ended.step old ended.passed_over) (rw same_flags (ended.run f)))

-- a stage whose next step was printed
pub printed-goes : (w : PrintInputs) (task : tasks.Task) (old mid new : Stage) (f f' : Parts)
    → old ≡ with_step (Print task) mid → Advances w (task_plan w (open_in mid.steps) task) 1 mid f new f'
    → Goes w 1 (plans w old.steps) (stage_run old f) (plans w new.steps) (stage_run new f')
printed-goes w task old mid new f f' taken advances = rw taken advances

-- each of these is broken, and each of those
all-broken : (w : PrintInputs) (a b : List Part) → AllByRecursion (IsBroken w) a → AllByRecursion (IsBroken w) b
    → AllByRecursion (IsBroken w) (a ++ b)
all-broken w [] b first second = second
all-broken w (part ∷ a) b first second = (first.0, all-broken w a b first.1 second)

-- broken parts were added, and then more
pub adds-then : {w : PrintInputs} {a b c : Parts} → AddsBroken w a b → AddsBroken w b c → AddsBroken w a c
adds-then {w = w} {a = a} first second = record {
  added = first.added ++ second.added;
  broken = all-broken w first.added second.added first.broken second.broken;
  is = second.is ∙ (ap (λ failed. with_parts failed second.added) first.is
      ∙ with_parts-append a first.added second.added);
}

-- a plan that is a document unfolds to it
done-is : {w : PrintInputs} {d d' : Document} → Unfolds w (Done d) d' → d' ≡ d
done-is done = refl

-- the signature of a function whose type was read begins while its index is open
pub begins_stands : (w : PrintInputs) (name : List ℕ) (index : ℕ) (type : TypeData) (old mid new : Stage)
    (f f' : Parts) → nat_eq index 0 ≡ false → w.read index ≡ Ok type → old ≡ beginning → (opened : Bool)
    → Opens index old mid opened → f' ≡ f → Stands w 0 (signature_by_type w name (open_in mid.steps) type) mid new
    → Begins w (signature w name index) f new f'
begins_stands w name index type old mid new f f' some read is true opens same stands = λ end ends d unfolds.
    let here : Stands w 0 (signature_by_type w name (index ∷ []) type) (with_step (Close index) beginning) new =
    rw (opens.1, is) at stands in
    let run_here = same_run (with_step (Close index) beginning) new f here.text here.failure in
    (here.goes (stage_run (with_step (Close index) beginning) f)).ends end (rw (same, run_here) at ends) d
    (rw (some, read) at unfolds)
begins_stands w name index type old mid new f f' some read is false opens same stands =
    absurd (let both : true ≡ false = sym opens.0 ∙ rw is refl in cc)

-- the signature of a function whose type can't be read fails
pub begins_refused : (w : PrintInputs) (name : List ℕ) (index : ℕ) (read_error_view : ReadErrorView) (old new : Stage)
    (f f' : Parts) → nat_eq index 0 ≡ false → w.read index ≡ Err read_error_view → old ≡ beginning
    → new.steps ≡ old.steps → stage_run new f' ≡ then_by None (stage_run old f) (run (refusal read_error_view))
    → Begins w (signature w name index) f new f'
begins_refused w name index read_error_view old new f f' some read_error is steps ran = λ end ends d unfolds.
    let whole : stage_run new f' ≡ run (refusal read_error_view) f = rw is at ran in
    let done : stage_run new f' ≡ end = rw (steps, is) at ends in
    let same : d ≡ refusal read_error_view = done-is (rw (some, read_error) at unfolds) in
    ap (λ (x : Document). run x f) same ∙ (sym whole ∙ done)

-- where a task is all that is to be done, printing comes to what its plan does
pub begins_task : (w : PrintInputs) (task : tasks.Task) (old new : Stage) (f : Parts) (end : Run) → old ≡ beginning
    → new ≡ with_step (Print task) old → Ends w (plans w new.steps) (stage_run new f) end
    → Runs w (task_plan w [] task) f end
begins_task w task old new f end is first ends = rw (first, is) at ends
