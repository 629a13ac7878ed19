-- How plans unfold to documents, and the runs of these.
use Rattle.std.specs.Prelude.{◌≡◌, ℕ, List}
use Rattle.pdb_types.specs.FailedParts.{Parts}
use Rattle.pdb_type_texts.specs.Documents.{Document, Run, run}
use Rattle.pdb_type_texts.specs.Documents as document
use Rattle.pdb_type_texts.specs.PrintInputs.{PrintInputs}
use Rattle.pdb_type_texts.specs.Plans.{Task, Plan, Done, Later, Seq, Buffered, Catch}
use Rattle.pdb_type_texts.specs.Rules.{rule}

-- a plan unfolds to a document: each task is replaced by its rule until no task is left
pub data Unfolds (w : PrintInputs) : Plan → Document → Type 0 where
  done : {d : Document} → Unfolds w (Done d) d
  later : {inside : List ℕ} {task : Task} {d : Document} → Unfolds w (rule w inside task) d
      → Unfolds w (Later inside task) d
  seq : {p q : Plan} {a b : Document} → Unfolds w p a → Unfolds w q b → Unfolds w (Seq p q) (document.Seq a b)
  buffered : {p : Plan} {a : Document} {after_sigil after_other : List ℕ} → Unfolds w p a
      → Unfolds w (Buffered p after_sigil after_other) (document.Buffered a after_sigil after_other)
  catch : {p : Plan} {a : Document} → Unfolds w p a → Unfolds w (Catch p) (document.Catch a)

-- a plan unfolds to one document, and to no other
pub record HasOneUnfolding (w : PrintInputs) (p : Plan) : Type 0 where
  pub unfolded : Document
  pub unfolds : Unfolds w p unfolded
  pub only : (other : Document) → Unfolds w p other → other ≡ unfolded

-- printing a plan has this run, whatever document it unfolds to, if these parts of the records failed before
abbrev pub Runs : PrintInputs → Plan → Parts → Run → Type 0
Runs w p failed r = (d : Document) → Unfolds w p d → run d failed ≡ r
