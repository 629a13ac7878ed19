-- Circles in printing: an index that opens inside itself, or that repeats in a chain.
use Rattle.std.specs.Prelude.{◌≡◌, ℕ, true, false, List, Some, None, Ok}
use Rattle.pdb_records.specs.declared.types.TypeData.{TypeData}
use Rattle.pdb_errors.specs.declared.error.Error.TheVariants.{CircularTypeDefinition}
use Rattle.pdb_errors.specs.Errors.{Plain}
use Rattle.pdb_types.specs.FailedParts.{Parts}
use Rattle.pdb_type_texts.specs.Documents.{Document, OfError, run}
use Rattle.pdb_type_texts.specs.FlagTests.{without_arguments}
use Rattle.pdb_type_texts.specs.PrintInputs.{PrintInputs}
use Rattle.pdb_type_texts.specs.Plans.{Task, Index, OfType, MethodArguments, Chain, BehindModifier}
use Rattle.pdb_type_texts.specs.Plans.{Modified, Elements, Id, Plan, Later, Seq, Buffered, Catch, is_among}
use Rattle.pdb_type_texts.specs.Printed.{document_of}
use Rattle.pdb_type_texts.specs.Rules.{rule}
use Rattle.pdb_type_texts.specs.Unfolding.{Unfolds}

-- a task opens this index while it is open: a type that can be read, a method's list of arguments, and the target of a
-- pointer or of a modifier; or the index repeats: an element of an array among the elements before it, and a scope
-- among the ids that it is a scope of
abbrev pub Repeats : PrintInputs → List ℕ → Task → ℕ → Type 0
Repeats w inside (Index index) circle =
    (index ≡ circle) × (is_among index inside ≡ true) × ((type : TypeData) × (w.read index ≡ Ok type))
Repeats w inside (OfType type) circle = ⊥
Repeats w inside (MethodArguments m form) circle =
    (m.argument_list.0 ≡ circle) × (is_among m.argument_list.0 inside ≡ true) × (without_arguments w.flags ≡ false)
Repeats w inside (Chain attributes target) circle = (target ≡ circle) × (is_among target inside ≡ true)
Repeats w inside (BehindModifier attributes target) circle = (target ≡ circle) × (is_among target inside ≡ true)
Repeats w inside (Modified constant target) circle = (target ≡ circle) × (is_among target inside ≡ true)
Repeats w inside (Elements elements levels next) circle = (next ≡ circle) × (is_among next elements ≡ true)
Repeats w inside (Id met index) circle = (index ≡ circle) × (is_among index met ≡ true)

-- no part of a document fails
abbrev pub Succeeds : Document → Type 0
Succeeds d = (failed : Parts) → (run d failed).fault ≡ None

-- printing a plan reaches a circle at this index before anything else fails
pub data MeetsCircle (w : PrintInputs) : Plan → ℕ → Type 0 where
  -- a task of the plan repeats the index
  at_task : {inside : List ℕ} {task : Task} {circle : ℕ} → Repeats w inside task circle
      → MeetsCircle w (Later inside task) circle
  -- the plan of a task's rule reaches it
  in_rule : {inside : List ℕ} {task : Task} {circle : ℕ} → MeetsCircle w (rule w inside task) circle
      → MeetsCircle w (Later inside task) circle
  -- the first of two plans reaches it
  in_first : {p q : Plan} {circle : ℕ} → MeetsCircle w p circle → MeetsCircle w (Seq p q) circle
  -- the first plan succeeds, and the second reaches it
  in_second : {p q : Plan} {d : Document} {circle : ℕ} → Unfolds w p d → Succeeds d → MeetsCircle w q circle
      → MeetsCircle w (Seq p q) circle
  -- a buffered plan reaches it
  in_buffer : {p : Plan} {after_sigil after_other : List ℕ} {circle : ℕ} → MeetsCircle w p circle
      → MeetsCircle w (Buffered p after_sigil after_other) circle
  -- a plan that a note may follow reaches it; a circle gets no note
  in_caught : {p : Plan} {circle : ℕ} → MeetsCircle w p circle → MeetsCircle w (Catch p) circle

-- printing a plan is refused as circular, with this index
abbrev pub IsRefusedAsCircular : PrintInputs → Plan → Parts → ℕ → Type 0
IsRefusedAsCircular w p failed circle =
    (run (document_of w p) failed).fault ≡ Some (OfError (Plain (CircularTypeDefinition circle)))
