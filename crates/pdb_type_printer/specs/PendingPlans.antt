-- The remaining steps of printing as plans, and the run to which they lead.
use Rattle.std.specs.Prelude.{◌≡◌, ℕ, suc, ◌+◌, ◌≤◌, false, List, [], ◌∷◌, reverse, Option, Some, None, Ok}
use Rattle.pdb_records.specs.declared.types.TypeData.{TypeData}
use Rattle.pdb_types.specs.declared.read_error.ReadError.{ReadError}
use Rattle.pdb_types.specs.FailedParts.{Parts}
use Rattle.pdb_types.specs.ReadError.{ReadErrorView}
use Rattle.pdb_type_texts.specs.declared.tasks.Pending.{Pending}
use Rattle.pdb_type_texts.specs.declared.tasks.Pending.TheVariants.{Print, Close, EndId, EndCatch, EndBuffer}
use Rattle.pdb_type_texts.specs.declared.attributes.Predecessor.TheVariants.{Sigil, Text}
use Rattle.pdb_type_texts.specs.Attributes.{attributes_text}
use Rattle.pdb_type_texts.specs.Documents.{Document, Run, run, then_by, caught_by}
use Rattle.pdb_type_printer.specs.ReadErrorViews.{IsViewOf}
use Rattle.pdb_type_texts.specs.PrintInputs.{PrintInputs}
use Rattle.pdb_type_texts.specs.Plans.{Task, Plan, Done, Later, Seq, Buffered, Catch}
use Rattle.pdb_type_texts.specs.Plans.{is_among, on_read, opening, refusal, note_or_refusal}
use Rattle.pdb_type_texts.specs.Rules.{rule}
use Rattle.pdb_type_texts.specs.Unfolding.{Unfolds, Runs}
use Rattle.pdb_type_texts.specs.Progress.{Stage, with_step, open_in, OpensAlone, task_plan, released_by, stage_run}

-- a remaining step
pub data PendingPlan : Type 0 where
  -- this plan is printed
  Then : Plan → PendingPlan
  -- an index closes, or an id ends
  Closing : PendingPlan
  -- a type ends; if a type was missing in it, a note follows
  Caught : PendingPlan
  -- the target of pointers ends, which began at this byte of the text; one of two texts follows it
  HeldBack : ℕ → List ℕ → List ℕ → PendingPlan

-- the model of a step, while these indices are open
abbrev pub pending_plan : PrintInputs → List ℕ → Pending → PendingPlan
pending_plan w inside (Print task) = Then (task_plan w inside task)
pending_plan w inside (Close index) = Closing
pending_plan w inside (EndId outer index) = Closing
pending_plan w inside EndCatch = Caught
pending_plan w inside (EndBuffer mark attributes) =
    HeldBack mark
    (attributes_text w.flags Sigil (reverse attributes.items))
    (attributes_text w.flags Text (reverse attributes.items))

-- the models of the remaining steps, the next one first
abbrev pub plans : PrintInputs → List Pending → List PendingPlan
plans w [] = []
plans w (step ∷ rest) = pending_plan w (open_in rest) step ∷ plans w rest

-- from this run, the remaining steps lead to the run `end`, whatever the documents of the plans are
abbrev pub Ends : PrintInputs → List PendingPlan → Run → Run → Type 0
Ends w [] so_far end = so_far ≡ end
Ends w (Then p ∷ rest) so_far end =
    (d : Document) → Unfolds w p d → Ends w rest (then_by so_far.fault so_far (run d)) end
Ends w (Closing ∷ rest) so_far end = Ends w rest so_far end
Ends w (Caught ∷ rest) so_far end = Ends w rest (caught_by so_far.fault so_far) end
Ends w (HeldBack mark after_sigil after_other ∷ rest) so_far end =
    Ends w rest (released_by so_far.fault so_far mark after_sigil after_other) end

-- a count of the steps that plans take
pub record Counts (w : PrintInputs) (cost : Plan → ℕ) : Type 0 where
  pub done : (d : Document) → cost (Done d) ≡ 1
  pub later : (inside : List ℕ) (task : Task) → cost (Later inside task) ≡ cost (rule w inside task) + 2
  pub seq : (p q : Plan) → cost (Seq p q) ≡ suc (cost p + cost q)
  pub buffered : (p : Plan) (after_sigil after_other : List ℕ) →
      cost (Buffered p after_sigil after_other) ≡ suc (cost p)
  pub catch : (p : Plan) → cost (Catch p) ≡ suc (cost p)

-- the number of remaining steps
abbrev pub steps_left : (Plan → ℕ) → List PendingPlan → ℕ
steps_left cost [] = 0
steps_left cost (Then p ∷ rest) = cost p + steps_left cost rest
steps_left cost (Closing ∷ rest) = suc (steps_left cost rest)
steps_left cost (Caught ∷ rest) = suc (steps_left cost rest)
steps_left cost (HeldBack mark after_sigil after_other ∷ rest) = suc (steps_left cost rest)

-- the steps changed to other ones, and the run to another: they lead to the same end, with at least `fewer` fewer steps
pub record Goes (w : PrintInputs) (fewer : ℕ) (old : List PendingPlan) (before : Run) (new : List PendingPlan)
    (after : Run)
    : Type 0 where
  pub ends : (end : Run) → Ends w new after end → Ends w old before end
  pub falls : (cost : Plan → ℕ) → Counts w cost → steps_left cost new + fewer ≤ steps_left cost old

-- printing has passed the first plan when it reaches the second stage
abbrev pub Advances : PrintInputs → Plan → ℕ → Stage → Parts → Stage → Parts → Type 0
Advances w p fewer old failed new failed_then =
    Goes w fewer (Then p ∷ plans w old.steps) (stage_run old failed) (plans w new.steps) (stage_run new failed_then)

-- printing has passed the first plan when it reaches the second stage; one more step may be left for what closes after
-- the plan
abbrev pub AdvancesClosing : PrintInputs → Plan → Stage → Parts → Stage → Parts → Type 0
AdvancesClosing w p old failed new failed_then =
    Goes w 0 (Then p ∷ Closing ∷ plans w old.steps) (stage_run old failed) (plans w new.steps)
    (stage_run new failed_then)

-- the steps of the second stage replace this plan: they lead to the same end, with at least `fewer` fewer steps, and
-- nothing else changed
pub record Stands (w : PrintInputs) (fewer : ℕ) (p : Plan) (old new : Stage) : Type 0 where
  pub goes : (before : Run) → Goes w fewer (Then p ∷ plans w old.steps) before (plans w new.steps) before
  pub opened : open_in new.steps ≡ open_in old.steps
  pub text : new.text ≡ old.text
  pub failure : new.failure ≡ old.failure

-- the steps of the second stage replace this plan for the current text, with no more steps
pub record StandsHere (w : PrintInputs) (p : Plan) (old new : Stage) : Type 0 where
  pub goes : (before : Run) → before.text ≡ old.text
      → Goes w 0 (Then p ∷ plans w old.steps) before (plans w new.steps) before
  pub text : new.text ≡ old.text
  pub failure : new.failure ≡ old.failure

-- an index was opened, and its type read
pub record IsEntered (w : PrintInputs) (index : ℕ) (old : Stage) (failed : Parts) (new : Stage) (failed_then : Parts)
    (type : TypeData) : Type 0 where
  pub absent : is_among index (open_in old.steps) ≡ false
  pub read : w.read index ≡ Ok type
  pub stage : new ≡ with_step (Close index) old
  pub parts : failed_then ≡ failed

-- an index was opened and its type read, or printing failed
abbrev pub Entered : PrintInputs → ℕ → Stage → Parts → Stage → Parts → Option TypeData → Type 0
Entered w index old failed new failed_then (Some type) = IsEntered w index old failed new failed_then type
Entered w index old failed new failed_then None =
    (next : List ℕ → TypeData → Plan)
    → Advances w (opening w (open_in old.steps) index next) 0 old failed new failed_then

-- the type of an index was read, and an id begins in which that index alone is open
pub record IsEnteredAlone (w : PrintInputs) (index : ℕ) (old : Stage) (failed : Parts) (new : Stage)
    (failed_then : Parts)
    (type : TypeData) : Type 0 where
  pub read : w.read index ≡ Ok type
  pub opens : OpensAlone (Some index) old new
  pub parts : failed_then ≡ failed

-- the type of an index was read and an id begins, or printing failed
abbrev pub EnteredAlone : PrintInputs → ℕ → Stage → Parts → Stage → Parts → Option TypeData → Type 0
EnteredAlone w index old failed new failed_then (Some type) =
    IsEnteredAlone w index old failed new failed_then type
EnteredAlone w index old failed new failed_then None =
    (next : TypeData → Plan) → AdvancesClosing w (on_read (w.read index) next) old failed new failed_then

-- something needed can't be read, and printing failed for it
pub record IsRefused (read_error : ReadError) (old : Stage) (failed : Parts) (new : Stage)
    (failed_then : Parts) : Type 0 where
  pub read_error_view : ReadErrorView
  pub known : IsViewOf read_error read_error_view
  pub steps : new.steps ≡ old.steps
  pub ran : stage_run new failed_then ≡ then_by None (stage_run old failed) (run (refusal read_error_view))

-- something that is printed in place can't be read: a note of it is printed, or printing failed for it
pub record IsNoted (read_error : ReadError) (old : Stage) (failed : Parts) (new : Stage)
    (failed_then : Parts) : Type 0 where
  pub read_error_view : ReadErrorView
  pub known : IsViewOf read_error read_error_view
  pub steps : new.steps ≡ old.steps
  pub ran : stage_run new failed_then ≡ then_by None (stage_run old failed) (run (note_or_refusal read_error_view))

-- printing from this stage on leads to the same as printing a plan from the start, if these parts failed before
abbrev pub Begins : PrintInputs → Plan → Parts → Stage → Parts → Type 0
Begins w p failed s failed_then =
    (end : Run) → Ends w (plans w s.steps) (stage_run s failed_then) end → Runs w p failed end
