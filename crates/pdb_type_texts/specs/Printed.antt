-- The results of printing, as functions of the print inputs.
use Rattle.std.specs.Prelude.{◌≡◌, Option, Some, None, ℕ, zero, suc, ◌+◌, ◌*◌, ◌^◌, List, []}
use Rattle.pdb_types.specs.FailedParts.{Parts}
use Rattle.pdb_types.specs.TypeInputs.{TypeInputs}
use Rattle.pdb_records.specs.Provided.{ProviderInfos}
use Rattle.pdb_type_texts.specs.Documents.{PrintError, TypeNotFound, OfError, Document, Run, run}
use Rattle.pdb_type_texts.specs.Documents as document
use Rattle.pdb_type_texts.specs.PrintInputs.{PrintInputs, formatter_inputs}
use Rattle.pdb_type_texts.specs.Plans.{Task, Plan, Done, Later, Seq, Buffered, Catch}
use Rattle.pdb_type_texts.specs.Ids.{id_of_index}
use Rattle.pdb_type_texts.specs.Rules.{rule}
use Rattle.pdb_type_texts.specs.Signatures.{signature}

-- the document of a plan, by those of its tasks
unfoldable pub plan_document : (List ℕ → Task → Document) → Plan → Document
plan_document next (Done d) = d
plan_document next (Later inside task) = next inside task
plan_document next (Seq p q) = document.Seq (plan_document next p) (plan_document next q)
plan_document next (Buffered p after_sigil after_other) =
    document.Buffered (plan_document next p) after_sigil after_other
plan_document next (Catch p) = document.Catch (plan_document next p)

-- the document of a task, if rules lead to rules at most this many times
unfoldable pub task_document : PrintInputs → ℕ → List ℕ → Task → Document
task_document w zero inside task = document.Text []
task_document w (suc times) inside task = plan_document (task_document w times) (rule w inside task)

-- a number of times above that by which rules can lead to rules, with this many indices of types and of ids. Each time
-- fewer indices are free to open or to be met, or as many and the rest is simpler
abbrev pub enough_for : ℕ → ℕ
enough_for indices = (indices + 2) * (indices + 4)

-- the document of a plan: the only one that the rules give, by the laws
unfoldable pub document_of : PrintInputs → Plan → Document
document_of w p = plan_document (task_document w (enough_for (2 ^ 32))) p

-- the run of printing the signature of a function, by its name and the index of its type in the module with this index
abbrev pub signature_run : {P : Type 0} → (P → ProviderInfos) → TypeInputs P → ℕ → List ℕ → ℕ → Parts → Run
signature_run info s module_index name index =
    let w = formatter_inputs info s module_index in
    run (document_of w (signature w name index))

-- the run of printing an id, by its index in the module with this index
abbrev pub id_run : {P : Type 0} → (P → ProviderInfos) → TypeInputs P → ℕ → ℕ → Parts → Run
id_run info s module_index index = run (document_of (formatter_inputs info s module_index) (id_of_index index))

-- two runs both succeed, or both fail: for the same missing type, or for another error
abbrev pub AlikeFault : Option PrintError → Option PrintError → Type 0
AlikeFault None None = Unit {0}
AlikeFault (Some (TypeNotFound i)) (Some (TypeNotFound j)) = i ≡ j
AlikeFault (Some (OfError e)) (Some (OfError e')) = Unit {0}
AlikeFault None (Some failure) = ⊥
AlikeFault (Some failure) None = ⊥
AlikeFault (Some (TypeNotFound i)) (Some (OfError e)) = ⊥
AlikeFault (Some (OfError e)) (Some (TypeNotFound j)) = ⊥

-- two runs write the same text, and both succeed or both fail
pub record AlikeRuns (r s : Run) : Type 0 where
  pub text : r.text ≡ s.text
  pub fault : AlikeFault r.fault s.fault
