-- The document that is computed of a plan is the one that it unfolds to.
use Rattle.std.proofs.Common.{◌≡◌, ℕ, zero, suc, ◌+◌, ◌*◌, ◌^◌, ◌<◌, ◌≤◌, inl, inr, List, arith, mul-le-mul_right}
use Rattle.pdb_records.specs.declared.types.TypeData.TheVariants.{Array}
use Rattle.pdb_types.specs.FailedParts.{Parts}
use Rattle.pdb_type_texts.specs.Documents.{Document, Run, run}
use Rattle.pdb_type_texts.specs.PrintInputs.{PrintInputs}
use Rattle.pdb_type_texts.specs.Plans.{Task, OfType, Elements, Id, Plan, Done, Later, Seq, Buffered, Catch}
use Rattle.pdb_type_texts.specs.Rules.{rule}
use Rattle.pdb_type_texts.specs.Unfolding.{Unfolds, done, later, seq, buffered, catch, HasOneUnfolding, Runs}
use Rattle.pdb_type_texts.specs.Printed.{plan_document, task_document, enough_for, document_of}
use Rattle.pdb_type_texts.proofs.FreeLemmas.{free_at_most}
use Rattle.pdb_type_texts.proofs.RuleLemmas.{EachTask, IsBelow, Before, room, rank}
use Rattle.pdb_type_texts.proofs.FallLemmas.{rule-each}
use Rattle.pdb_type_texts.proofs.UnfoldingLemmas.{unfolds_once}

-- a plan unfolds to the document that is computed of it, where its tasks do
pub plan-unfolds : (w : PrintInputs) (next : List ℕ → Task → Document) (P : List ℕ → Task → Type 0)
    → ((inside : List ℕ) (task : Task) → P inside task → Unfolds w (Later inside task) (next inside task))
    → (p : Plan) → EachTask P p → Unfolds w p (plan_document next p)
unfolding plan_document
plan-unfolds w next P some (Done d) each = done
plan-unfolds w next P some (Later inside task) each = some inside task each
plan-unfolds w next P some (Seq p q) each =
    seq (plan-unfolds w next P some p each.0) (plan-unfolds w next P some q each.1)
plan-unfolds w next P some (Buffered p after_sigil after_other) each = buffered (plan-unfolds w next P some p each)
plan-unfolds w next P some (Catch p) each = catch (plan-unfolds w next P some p each)

-- nothing is claimed of any task
each_unit : (p : Plan) → EachTask (λ inside task. Unit {0}) p
each_unit (Seq p q) = (each_unit p, each_unit q)
each_unit (Buffered p after_sigil after_other) = each_unit p
each_unit (Catch p) = each_unit p
each_unit _ = tt

-- ranks are bounded
rank-below : (n : ℕ) (task : Task) → rank n task < n + 4
rank-below n (OfType (Array a)) = omega arith
rank-below n (Elements elements levels next) = omega (arith, free_at_most n elements)
rank-below n (Id met index) = omega (arith, free_at_most n met)
rank-below n other = omega arith

-- so is room
room-below : (n : ℕ) (inside : List ℕ) (task : Task) → room n inside task < n + 2
room-below n inside (Id met index) = omega arith
room-below n inside other = omega (arith, free_at_most n inside)

-- how many times rules can lead to rules from a task on
abbrev pub times_left : ℕ → List ℕ → Task → ℕ
times_left n inside task = room n inside task * (n + 4) + rank n task

-- less room leaves fewer times
fewer-left : (n f g r s : ℕ) → f < g → r < n + 4 → f * (n + 4) + r < g * (n + 4) + s
fewer-left n f g r s less below = let more : suc f * (n + 4) ≤ g * (n + 4) = mul-le-mul_right (n + 4) less in
    omega (arith, more)

-- as much room and a lower rank leave fewer times
lower-left : (n f g r s : ℕ) → f ≤ g → r < s → f * (n + 4) + r < g * (n + 4) + s
lower-left n f g r s within lower = let more : f * (n + 4) ≤ g * (n + 4) = mul-le-mul_right (n + 4) within in
    omega (arith, more)

-- a task that comes before another has fewer times left
before-left : (n : ℕ) (inside : List ℕ) (task : Task) (inside' : List ℕ) (task' : Task)
    → Before n inside task inside' task' → times_left n inside' task' < times_left n inside task
before-left n inside task inside' task' before = elim before [
  | inl fewer ↦ fewer-left n (room n inside' task') (room n inside task) (rank n task') (rank n task) fewer
      (rank-below n task')
  | inr as_many ↦ lower-left n (room n inside' task') (room n inside task) (rank n task')
      (rank n task) as_many.0 as_many.1
]

-- a task unfolds to the document that is computed of it, with enough times
pub task-unfolds : (n : ℕ) (w : PrintInputs) → IsBelow n w → (times : ℕ) (inside : List ℕ) (task : Task)
    → times_left n inside task < times → Unfolds w (Later inside task) (task_document w times inside task)
unfolding task_document
task-unfolds n w below zero inside task enough = absurd (omega arith)
task-unfolds n w below (suc times) inside task enough =
    later (plan-unfolds w (task_document w times) (Before n inside task)
    (λ inside' task' before. task-unfolds n w below times inside' task'
    (let less = before-left n inside task inside' task' before in omega arith)) (rule w inside task)
    (rule-each n w below inside task))

-- there are enough times for each task
enough-times : (n : ℕ) (inside : List ℕ) (task : Task) → times_left n inside task < enough_for n
enough-times n inside task =
    let enough : times_left n inside task < (n + 2) * (n + 4) + 0 =
    fewer-left n (room n inside task) (n + 2) (rank n task) 0 (room-below n inside task) (rank-below n task) in
    omega arith

-- each plan unfolds to the document that is computed of it
pub document-by : (n : ℕ) (w : PrintInputs) → IsBelow n w → (p : Plan)
    → Unfolds w p (plan_document (task_document w (enough_for n)) p)
document-by n w below p = plan-unfolds w (task_document w (enough_for n)) (λ inside task. Unit {0})
    (λ inside task each. task-unfolds n w below (enough_for n) inside task (enough-times n inside task)) p (each_unit p)

-- each plan unfolds to its document, where only indices of 32 bits lead to types and to ids
pub document-unfolds : (w : PrintInputs) → IsBelow (2 ^ 32) w → (p : Plan) → Unfolds w p (document_of w p)
unfolding document_of
document-unfolds w below p = document-by (2 ^ 32) w below p

-- each plan unfolds to that document and to no other
pub one-unfolding : (w : PrintInputs) → IsBelow (2 ^ 32) w → (p : Plan) → HasOneUnfolding w p
one-unfolding w below p =
    let unfolds = document-unfolds w below p in
    record { unfolded = document_of w p; unfolds = unfolds; only = λ other also. unfolds_once also unfolds }

-- what printing a plan does is what printing its document does
pub document-runs : (w : PrintInputs) → IsBelow (2 ^ 32) w → (p : Plan) (failed : Parts) (r : Run) → Runs w p failed r
    → run (document_of w p) failed ≡ r
document-runs w below p failed r runs = runs (document_of w p) (document-unfolds w below p)
