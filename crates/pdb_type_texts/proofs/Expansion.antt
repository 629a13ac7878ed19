-- The document of a plan, computed by following the rules to some depth.
use Rattle.std.proofs.Common.{◌≡◌, ℕ, zero, suc, List}
use Rattle.std.specs.Prelude.{Option, Some, None, option_map}
use Rattle.pdb_types.specs.FailedParts.{Parts}
use Rattle.pdb_type_texts.specs.Documents.{Document, Run, run}
use Rattle.pdb_type_texts.specs.Documents as document
use Rattle.pdb_type_texts.specs.PrintInputs.{PrintInputs}
use Rattle.pdb_type_texts.specs.Plans.{Task, Plan, Done, Later, Seq, Buffered, Catch}
use Rattle.pdb_type_texts.specs.Rules.{rule}
use Rattle.pdb_type_texts.specs.Unfolding.{Unfolds, done, later, seq, buffered, catch, Runs}
use Rattle.pdb_type_texts.proofs.UnfoldingLemmas.{unfolds_once}

-- a plan unfolds to some document
abbrev pub UnfoldsToSome : PrintInputs → Plan → Type 0
UnfoldsToSome w p = (d : Document) × Unfolds w p d

-- a document of two plans, where each has one
abbrev pub seq-expanded : {w : PrintInputs} {p q : Plan} → Option (UnfoldsToSome w p) → Option (UnfoldsToSome w q)
    → Option (UnfoldsToSome w (Seq p q))
seq-expanded (Some a) (Some b) = Some (document.Seq a.0 b.0, seq a.1 b.1)
seq-expanded _ _ = None

-- a document of a plan, by those of its tasks
abbrev pub expanded : (w : PrintInputs)
    → ((inside : List ℕ) (task : Task) → Option (UnfoldsToSome w (Later inside task))) → (p : Plan)
    → Option (UnfoldsToSome w p)
expanded w next (Done d) = Some (d, done)
expanded w next (Later inside task) = next inside task
expanded w next (Seq p q) = seq-expanded (expanded w next p) (expanded w next q)
expanded w next (Buffered p after_sigil after_other) =
    option_map (λ some. (document.Buffered some.0 after_sigil after_other, buffered some.1)) (expanded w next p)
expanded w next (Catch p) = option_map (λ some. (document.Catch some.0, catch some.1)) (expanded w next p)

-- a document of a task, where its rules go no deeper than this
abbrev pub task-expanded : (w : PrintInputs) → ℕ → (inside : List ℕ) (task : Task)
    → Option (UnfoldsToSome w (Later inside task))
task-expanded w zero inside task = None
task-expanded w (suc depth) inside task =
    option_map (λ some. (some.0, later some.1)) (expanded w (task-expanded w depth) (rule w inside task))

-- what printing a plan does, where its rules go no deeper than this
abbrev pub run-expanded : (w : PrintInputs) → ℕ → Plan → Parts → Option Run
run-expanded w depth p failed = option_map (λ some. run some.0 failed) (expanded w (task-expanded w depth) p)

-- what printing a plan does is what printing each document of it does
pub run-each : (w : PrintInputs) (depth : ℕ) (p : Plan) (failed : Parts) (r : Run)
    → run-expanded w depth p failed ≡ Some r → Runs w p failed r
run-each w depth p failed r is d unfolds =
    (elim (expanded w (task-expanded w depth) p) as (λ o. option_map (λ some. run some.0 failed) o ≡ Some r
    → run d failed ≡ r) [
      | None ↦ λ e. cc
      | Some some ↦ λ e. let same : d ≡ some.0 = unfolds_once unfolds some.1 in cc
    ]) is
