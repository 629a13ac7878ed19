-- The documents of plans over two print inputs that agree.
use Rattle.std.proofs.Common.{◌≡◌, ◌^◌, ℕ, zero, suc, true, List, refl, ap, ◌∙◌}
use Rattle.pdb_types.specs.declared.flags.TypeFormatterFlags.{TypeFormatterFlags}
use Rattle.pdb_type_texts.specs.Documents.{Document}
use Rattle.pdb_type_texts.specs.Ids.{id_of_index}
use Rattle.pdb_type_texts.specs.Plans.{Task, Plan, Done, Later, Seq, Buffered, Catch}
use Rattle.pdb_type_texts.specs.Printed.{plan_document, task_document, enough_for, document_of}
use Rattle.pdb_type_texts.specs.Rules.{rule}
use Rattle.pdb_type_texts.specs.Signatures.{signature}
use Rattle.pdb_type_texts.specs.PrintInputs.{PrintInputs}
use Rattle.pdb_part_laws.specs.Asked.{Indices, AgreeAt, IsClosedAt, TaskAsksAt, AsksAt}
use Rattle.pdb_part_laws.proofs.SamePlans.{IsSame, with_flags_of, same_rule, same_signature}

-- the document of a plan, where those of the tasks that it may have are the same
same_plan_document : (at : Indices) (next other : List ℕ → Task → Document)
    → ((inside : List ℕ) (task : Task) → TaskAsksAt at task → next inside task ≡ other inside task)
    → (p : Plan) → AsksAt at p → plan_document next p ≡ plan_document other p
unfolding plan_document
same_plan_document at next other tasks (Done document) asked = refl
same_plan_document at next other tasks (Later inside task) asked = tasks inside task asked
same_plan_document at next other tasks (Seq p q) asked =
    cc (same_plan_document at next other tasks p asked.0, same_plan_document at next other tasks q asked.1)
same_plan_document at next other tasks (Buffered p after_sigil after_other) asked =
    cc (same_plan_document at next other tasks p asked)
same_plan_document at next other tasks (Catch p) asked = cc (same_plan_document at next other tasks p asked)

-- the document of a task, where rules lead to rules at most so many times
same_task_document : (at : Indices) (w other : PrintInputs) → AgreeAt at w other → IsClosedAt at w
    → (times : ℕ) (inside : List ℕ) (task : Task) → TaskAsksAt at task
    → task_document w times inside task ≡ task_document (with_flags_of w other) times inside task
unfolding task_document
same_task_document at w other agree closed zero inside task asked = refl
same_task_document at w other agree closed (suc times) inside task asked =
    let same : IsSame at (rule w inside task) (rule (with_flags_of w other) inside task) =
    same_rule at w other agree closed inside task asked in
    same_plan_document at (task_document w times) (task_document (with_flags_of w other) times)
    (same_task_document at w other agree closed times) (rule w inside task) same.asks
    ∙ ap (λ (p : Plan). plan_document (task_document (with_flags_of w other) times) p) same.one

-- the document of a plan
same_document : (at : Indices) (w other : PrintInputs) → AgreeAt at w other → IsClosedAt at w
    → (p : Plan) → AsksAt at p → document_of w p ≡ document_of (with_flags_of w other) p
unfolding document_of
same_document at w other agree closed p asked =
    same_plan_document at (task_document w (enough_for (2 ^ 32)))
    (task_document (with_flags_of w other) (enough_for (2 ^ 32)))
    (same_task_document at w other agree closed (enough_for (2 ^ 32))) p asked

-- the same, with the flags of the second
pub documents_agree : (w other : PrintInputs) (at : Indices) → AgreeAt at w other → IsClosedAt at w
    → (p : Plan) → AsksAt at p → document_of w p ≡ document_of other p
documents_agree w other at agree closed p asked =
    same_document at w other agree closed p asked
    ∙ ap (λ (flags : TypeFormatterFlags). document_of (record {
      read = other.read;
      size = other.size;
      read_id = other.read_id;
      flags = flags;
    }) p) agree.flags

-- the document of a signature
pub signatures_agree : (w other : PrintInputs) (at : Indices) → AgreeAt at w other → IsClosedAt at w
    → (name : List ℕ) (index : ℕ) → at.types index ≡ true
    → document_of w (signature w name index) ≡ document_of other (signature other name index)
signatures_agree w other at agree closed name index asked =
    let same : IsSame at (signature w name index) (signature (with_flags_of w other) name index) =
    same_signature at w other agree closed name index asked in
    documents_agree w other at agree closed (signature w name index) same.asks
    ∙ ap (λ (p : Plan). document_of other p) same.one
    ∙ ap (λ (flags : TypeFormatterFlags). document_of other (signature (record {
      read = other.read;
      size = other.size;
      read_id = other.read_id;
      flags = flags;
    }) name index)) agree.flags

-- the document of an id
pub ids_agree : (w other : PrintInputs) (at : Indices) → AgreeAt at w other → IsClosedAt at w
    → (index : ℕ) → at.ids index ≡ true → document_of w (id_of_index index) ≡ document_of other (id_of_index index)
ids_agree w other at agree closed index asked = documents_agree w other at agree closed (id_of_index index) asked
