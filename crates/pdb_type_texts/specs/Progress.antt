-- Stages of printing.
use Rattle.std.specs.Prelude.{◌≡◌, ℕ, ◌++◌, Bool, true, false, List, [], ◌∷◌, Option}
use Rattle.std.specs.Prelude.{Some, None, take, drop, reverse, is_some, if◌then◌else◌}
use Rattle.std.specs.String.Boundary.{IsSplitPoint}
use Rattle.std.specs.BTreeSet.{BTreeSet, contains}
use Rattle.std.specs.Ordering.{nat_cmp}
use Rattle.pdb_records.specs.declared.error.Error.TheVariants as records
use Rattle.pdb_errors.specs.declared.error.Error.{Error}
use Rattle.pdb_errors.specs.declared.error.Error.TheVariants.{PdbError, CircularTypeDefinition}
use Rattle.pdb_types.specs.declared.flags.TypeFormatterFlags.{TypeFormatterFlags}
use Rattle.pdb_errors.specs.Errors.{Plain, error_view}
use Rattle.pdb_types.specs.FailedParts.{Parts}
use Rattle.pdb_type_texts.specs.declared.print_error.PrintError as code
use Rattle.pdb_type_texts.specs.declared.print_error.PrintError.TheVariants as code_failure
use Rattle.pdb_type_texts.specs.declared.tasks.Task as tasks
use Rattle.pdb_type_texts.specs.declared.tasks.Task.TheVariants as task
use Rattle.pdb_type_texts.specs.declared.tasks.Pending.{Pending}
use Rattle.pdb_type_texts.specs.declared.tasks.Pending.TheVariants.{Print, Close, EndId, EndCatch, EndBuffer}
use Rattle.pdb_type_texts.specs.declared.progress.Next.{Next}
use Rattle.pdb_type_texts.specs.declared.progress.Next.TheVariants as next
use Rattle.pdb_type_texts.specs.declared.attributes.Predecessor.TheVariants.{Sigil, Text}
use Rattle.pdb_type_texts.specs.Attributes.{attributes_text}
use Rattle.pdb_type_texts.specs.Wording.{wording_text}
use Rattle.pdb_type_texts.specs.Documents.{PrintError, TypeNotFound, OfError, Run, caught_by, ends_in_sigil}
use Rattle.pdb_type_texts.specs.PrintInputs.{PrintInputs}
use Rattle.pdb_type_texts.specs.Plans.{Plan, Index, OfType, MethodArguments, Chain, BehindModifier}
use Rattle.pdb_type_texts.specs.Plans.{Modified, Elements, Id, Later, written, is_among}
use Rattle.pdb_type_texts.specs.Functions.{returned, further_types, types_between, function_arguments}
use Rattle.pdb_type_texts.specs.Ids.{scope}
use Rattle.pdb_type_texts.specs.Methods.{arguments_behind}

-- a stage of printing: the remaining steps, the next one first; the text so far; and the failure, if there is one
pub record Stage : Type 0 where
  pub steps : List Pending
  pub text : List ℕ
  pub failure : Option PrintError

-- the stage before printing: no steps and no text
abbrev pub beginning : Stage
beginning = record { steps = []; text = []; failure = None }

-- a stage with one more step, which is the next one
abbrev pub with_step : Pending → Stage → Stage
with_step step s = record { steps = step ∷ s.steps; text = s.text; failure = s.failure }

-- a stage with these tasks as the next steps, in order
abbrev pub with_tasks : List tasks.Task → Stage → Stage
with_tasks [] s = s
with_tasks (task ∷ further) s = with_step (Print task) (with_tasks further s)

-- these tasks were put before the other steps, in order
pub record Puts (put : List tasks.Task) (old new : Stage) : Type 0 where
  pub is : new ≡ with_tasks put old

-- a stage with more text
abbrev pub with_text : List ℕ → Stage → Stage
with_text more s = record { steps = s.steps; text = s.text ++ more; failure = s.failure }

-- a stage with a failure
abbrev pub with_failure : PrintError → Stage → Stage
with_failure failure s = record { steps = s.steps; text = s.text; failure = Some failure }

-- the model of the code's `PrintError`
abbrev pub failure_of : code.PrintError → PrintError
failure_of (code_failure.TypeNotFound index) = TypeNotFound index
failure_of (code_failure.OfError e) = OfError (error_view e)

-- the error of the code's `PrintError`
abbrev pub error_of : code.PrintError → Error
error_of (code_failure.TypeNotFound index) = PdbError (records.TypeNotFound index)
error_of (code_failure.OfError e) = e

-- the model of an optional `PrintError`
abbrev pub failure_in : Option code.PrintError → Option PrintError
failure_in None = None
failure_in (Some failure) = Some (failure_of failure)

-- a list with only this index, or an empty one
abbrev pub alone : Option ℕ → List ℕ
alone None = []
alone (Some index) = index ∷ []

-- the open indices: those that a later step closes. Those around an id aren't open in it
abbrev pub open_in : List Pending → List ℕ
open_in [] = []
open_in (Close index ∷ rest) = index ∷ open_in rest
open_in (EndId outer index ∷ rest) = alone index
open_in (other ∷ rest) = open_in rest

-- the bytes of the text at which the unended targets of pointers began, the innermost first
abbrev pub marks_in : List Pending → List ℕ
marks_in [] = []
marks_in (EndBuffer mark attributes ∷ rest) = mark ∷ marks_in rest
marks_in (other ∷ rest) = marks_in rest

-- the numbers are all different
abbrev pub AreDistinct : List ℕ → Type 0
AreDistinct [] = Unit {0}
AreDistinct (index ∷ rest) = (is_among index rest ≡ false) × AreDistinct rest

-- a set has exactly these numbers, each of them once
pub record IsSetOf (set : BTreeSet ℕ) (indices : List ℕ) : Type 0 where
  pub same : (q : ℕ) → contains nat_cmp set q ≡ is_among q indices
  pub distinct : AreDistinct indices

-- the set that is put back at the end of an id has the indices that were open around the id
abbrev pub PutsBack : List Pending → Type 0
PutsBack [] = Unit {0}
PutsBack (EndId outer index ∷ rest) = IsSetOf outer (open_in rest) × PutsBack rest
PutsBack (other ∷ rest) = PutsBack rest

-- a text may be truncated at each of these bytes, in this order
abbrev pub MayBeCut : List ℕ → List ℕ → Type 0
MayBeCut text [] = Unit {0}
MayBeCut text (mark ∷ earlier) = IsSplitPoint text mark × MayBeCut (take mark text) earlier

-- the plan of a task, while these indices are open
abbrev pub task_plan : PrintInputs → List ℕ → tasks.Task → Plan
task_plan w inside (task.Written wording) = written (wording_text w.flags wording)
task_plan w inside (task.Index index) = Later inside (Index index.0)
task_plan w inside (task.OfType type) = Later inside (OfType type.now)
task_plan w inside (task.Returned index) = returned inside index
task_plan w inside (task.Types separator this list) =
    types_between separator.now inside (arguments_behind this list.now)
task_plan w inside (task.FurtherTypes separator list) = further_types separator.now inside list.now
task_plan w inside (task.FunctionArguments list) = function_arguments w inside list
task_plan w inside (task.MethodArguments m form) = Later inside (MethodArguments m.now form)
task_plan w inside (task.Chain attributes target) = Later inside (Chain (reverse attributes.items) target.0)
task_plan w inside (task.BehindModifier attributes target) =
    Later inside (BehindModifier (reverse attributes.items) target.0)
task_plan w inside (task.Modified m) = Later inside (Modified m.now.constant m.now.underlying_type.0)
task_plan w inside (task.Elements elements levels next) =
    Later inside (Elements elements.keys levels.items next.0)
task_plan w inside (task.Id met index) = Later inside (Id met.keys index.0)
task_plan w inside (task.Scope met index) = scope met.keys inside index

-- the run of a stage, if these parts of the records have failed
abbrev pub stage_run : Stage → Parts → Run
stage_run s failed = record { text = s.text; fault = s.failure; failed = failed }

-- the run after the end of pointers' target, which began at this byte of the text. One of two texts follows it, by the
-- end of its text; if printing failed, its text is removed
abbrev pub released_by : Option PrintError → Run → ℕ → List ℕ → List ℕ → Run
released_by (Some failure) r mark after_sigil after_other =
    record { text = take mark r.text; fault = r.fault; failed = r.failed }
released_by None r mark after_sigil after_other =
    let behind = if ends_in_sigil (drop mark r.text) then after_sigil else after_other in
    record { text = r.text ++ behind; fault = None; failed = r.failed }

-- an index opens; or it was open already, and printing fails
abbrev pub Opens : ℕ → Stage → Stage → Bool → Type 0
Opens index old new true = (is_among index (open_in old.steps) ≡ false) × (new ≡ with_step (Close index) old)
Opens index old new false =
    (is_among index (open_in old.steps) ≡ true)
    × (new ≡ with_failure (OfError (Plain (CircularTypeDefinition index))) old)

-- an id begins, in which only this index of a type is open, or none
abbrev pub OpensAlone : Option ℕ → Stage → Stage → Type 0
OpensAlone index old new = (outer : BTreeSet ℕ) × (new ≡ with_step (EndId outer index) old)

-- the run after the end of a step: EndCatch adds the note for a missing type, EndBuffer adds the pointers after their
-- target, and the other ends change nothing
abbrev pub ended_run : TypeFormatterFlags → Pending → Run → Run
ended_run flags EndCatch r = caught_by r.fault r
ended_run flags (EndBuffer mark attributes) r =
    released_by r.fault r mark
    (attributes_text flags Sigil (reverse attributes.items))
    (attributes_text flags Text (reverse attributes.items))
ended_run flags other r = r

-- a step to be printed is skipped only if printing failed
abbrev pub IsPassedOver : Pending → Stage → Type 0
IsPassedOver (Print task) s = is_some s.failure ≡ true
IsPassedOver other s = Unit {0}

-- the next step of a stage was taken: it is this one, and it has ended or was skipped
pub record Ended (flags : TypeFormatterFlags) (old new : Stage) : Type 0 where
  pub step : Pending
  pub taken : old.steps ≡ step ∷ new.steps
  pub passed_over : IsPassedOver step old
  pub run : (failed : Parts) → stage_run new failed ≡ ended_run flags step (stage_run old failed)

-- the next action: something is printed, or something ends, or nothing is left
abbrev pub Takes : TypeFormatterFlags → Stage → Next → Stage → Type 0
Takes flags old (next.Print task) new = (old ≡ with_step (Print task) new) × (new.failure ≡ None)
Takes flags old next.Ended new = Ended flags old new
Takes flags old next.Finished new = (old.steps ≡ []) × (new ≡ old)
