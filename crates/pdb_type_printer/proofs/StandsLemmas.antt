-- What stands among the steps of a stage.
use Rattle.std.proofs.Common.{◌≡◌, ℕ, ◌+◌, ◌≤◌, List, [], ◌∷◌, length, refl, sym, ap, ◌∙◌, arith}
use Rattle.std.specs.Prelude.{reverse, Vec}
use Rattle.std.specs.declared.alloc.Global.{Global}
use Rattle.pdb_type_texts.specs.declared.tasks.Task as tasks
use Rattle.pdb_type_texts.specs.declared.tasks.Pending.TheVariants.{Print, EndBuffer}
use Rattle.pdb_type_texts.specs.declared.attributes.Attribute.{Attribute}
use Rattle.pdb_type_texts.specs.declared.attributes.Predecessor.TheVariants.{Sigil, Text}
use Rattle.pdb_type_texts.specs.Attributes.{attributes_text}
use Rattle.pdb_type_texts.specs.Documents.{Run, run, then_by}
use Rattle.pdb_type_texts.specs.PrintInputs.{PrintInputs}
use Rattle.pdb_type_texts.specs.Plans.{Plan, Buffered, ◌▸◌}
use Rattle.pdb_type_texts.specs.Progress.{Stage, with_step, Puts, open_in, task_plan}
use Rattle.pdb_type_printer.specs.PendingPlans.{PendingPlan, Then, Goes, plans, Stands, StandsHere}
use Rattle.pdb_type_printer.proofs.GoesLemmas.{goes_on, goes_then, goes_fewer, goes_seq, goes_buffered}

-- what goes on whatever is printed before it, goes on after a plan
pub goes_under : (w : PrintInputs) (n : ℕ) (p : Plan) (k k' : List PendingPlan)
    → ((before : Run) → Goes w n k before k' before) → (c : Run) → Goes w n (Then p ∷ k) c (Then p ∷ k') c
goes_under w n p k k' goes c = record {
  ends = λ end ends d unfolds. (goes (then_by c.fault c (run d))).ends end (ends d unfolds);
  falls = λ cost counts. let a = (goes c).falls cost counts in omega arith;
}

-- a task that is to be done next is its plan
pub stands_first : (w : PrintInputs) {task : tasks.Task} {old new : Stage} → new ≡ with_step (Print task) old
    → Stands w 0 (task_plan w (open_in old.steps) task) old new
stands_first w is = rw is (record { goes = λ before. goes_on; opened = refl; text = refl; failure = refl })

-- a task that is to be done before a plan
infixl 20 ◌◂◌
pub ◌◂◌ : {w : PrintInputs} {n : ℕ} {task : tasks.Task} {q : Plan} {old mid new : Stage} → Stands w n q old mid
    → new ≡ with_step (Print task) mid → Stands w (1 + n) (task_plan w (open_in old.steps) task ▸ q) old new
◌◂◌ {w = w} {n = n} {task = task} {q = q} {old = old} {mid = mid} stands is = rw is (record {
  goes = λ before. goes_then (goes_seq w (task_plan w (open_in old.steps) task) q (plans w old.steps) before)
      (rw stands.opened (goes_under w n (task_plan w (open_in old.steps) task) (Then q ∷ plans w old.steps)
      (plans w mid.steps) stands.goes before));
  opened = stands.opened;
  text = stands.text;
  failure = stands.failure;
})

-- fewer steps are claimed to be done
pub stands_fewer : {w : PrintInputs} {m : ℕ} {p : Plan} {old new : Stage} (n : ℕ) → n ≤ m → Stands w m p old new
    → Stands w n p old new
stands_fewer n less stands = record {
  goes = λ before. goes_fewer n less (stands.goes before);
  opened = stands.opened;
  text = stands.text;
  failure = stands.failure;
}

-- what is printed of tasks, one after the other
abbrev pub tasks_plan : PrintInputs → List ℕ → tasks.Task → List tasks.Task → Plan
tasks_plan w inside task [] = task_plan w inside task
tasks_plan w inside task (next ∷ further) = task_plan w inside task ▸ tasks_plan w inside next further

-- tasks that were put first, one after the other, are their plans
pub stands_all : (w : PrintInputs) {task : tasks.Task} {further : List tasks.Task} {old new : Stage}
    → Puts (task ∷ further) old new
    → Stands w (length further) (tasks_plan w (open_in old.steps) task further) old new
stands_all w {further = []} put = stands_first w put.is
stands_all w {task = task} {further = next ∷ rest} {old = old} put =
    let further = stands_all w {task = next} {further = rest} {old = old} (record { is = refl }) in
    stands_fewer (length (next ∷ rest)) (omega arith) (further ◂ put.is)

-- what stands, stands here
pub stands_here : {w : PrintInputs} {p : Plan} {old new : Stage} → Stands w 0 p old new → StandsHere w p old new
stands_here stands = record { goes = λ before text. stands.goes before; text = stands.text; failure = stands.failure }

-- the target of pointers that is to be printed next, held back
pub stands_held_back : (w : PrintInputs) (attributes : Vec Attribute Global) (task : tasks.Task) (old mid new : Stage)
    → mid ≡ with_step (EndBuffer (length old.text) attributes) old → new ≡ with_step (Print task) mid
    → StandsHere w (Buffered (task_plan w (open_in old.steps) task)
    (attributes_text w.flags Sigil (reverse attributes.items))
    (attributes_text w.flags Text (reverse attributes.items))) old new
stands_held_back w attributes task old mid new held_back is =
    rw (is ∙ ap (with_step (Print task)) held_back) (record {
      goes = λ before text. goes_buffered w (task_plan w (open_in old.steps) task) _ _ (plans w old.steps) before
          (length old.text) (ap length (sym text));
      text = refl;
      failure = refl;
    })
