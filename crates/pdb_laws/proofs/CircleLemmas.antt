-- Printing is refused as circular exactly where it meets a circle.
use Rattle.std.proofs.Common.{◌≡◌, ℕ, List, Option, Some, None, refl, subst, ◌∙◌}
use Rattle.pdb_errors.specs.declared.error.Error.TheVariants.{CircularTypeDefinition}
use Rattle.pdb_errors.specs.Errors.{ErrorView, Plain}
use Rattle.pdb_types.specs.FailedParts.{Parts}
use Rattle.pdb_type_texts.specs.Documents.{Document, PrintError, TypeNotFound, OfError, Run, then_by, buffered_by}
use Rattle.pdb_type_texts.specs.Documents.{caught_by, run}
use Rattle.pdb_type_texts.specs.Documents as document
use Rattle.pdb_type_texts.specs.Plans.{Task, Plan, Later, Seq, Buffered, Catch, circular}
use Rattle.pdb_type_texts.specs.Printed.{AlikeFault}
use Rattle.pdb_type_texts.specs.Rules.{rule}
use Rattle.pdb_type_texts.specs.Unfolding.{Unfolds, done, later, seq, buffered, catch}
use Rattle.pdb_type_texts.specs.PrintInputs.{PrintInputs}
use Rattle.pdb_type_texts.proofs.AlikeLemmas.{alike-runs}
use Rattle.pdb_type_texts.proofs.UnfoldingLemmas.{unfolds_once}
use Rattle.pdb_laws.specs.Circles.{Repeats, Succeeds, MeetsCircle, at_task, in_rule, in_first, in_second, in_buffer}
use Rattle.pdb_laws.specs.Circles.{in_caught}
use Rattle.pdb_laws.proofs.ReadLemmas.{AreGoodPrintInputs}
use Rattle.pdb_laws.proofs.PlanLemmas.{HasPrintErrors, IsGoodPlan}
use Rattle.pdb_laws.proofs.TaskRuleLemmas.{RuleGives, circle, good, rule_gives, repeats_circular}

-- a failure is the refusal of this index as circular
abbrev pub Circle : ℕ → Option PrintError
Circle index = Some (OfError (Plain (CircularTypeDefinition index)))

-- a document that succeeds once succeeds whatever failed before
pub succeeds_always : (d : Document) (failed : Parts) → (run d failed).fault ≡ None → Succeeds d
succeeds_always d failed is failed' =
    by_fault (run d failed').fault refl (rw is at (alike-runs d failed failed').fault) where
      by_fault : (fault : Option PrintError) → (run d failed').fault ≡ fault → AlikeFault None (run d failed').fault
          → (run d failed').fault ≡ None
      by_fault None was alike = was
      by_fault (Some f) was alike = absurd (rw was at alike)

-- the document of a task whose rule refuses an index as circular is that refusal
pub circular_document : {d : Document} (w : PrintInputs) (inside : List ℕ) (task : Task) (index : ℕ)
    → rule w inside task ≡ circular index → Unfolds w (rule w inside task) d
    → document.Fail (OfError (Plain (CircularTypeDefinition index))) ≡ d
circular_document {d = d} w inside task index is u =
    let P : Plan → Type 0 = λ p. Unfolds w p d in
    unfolds_once done (subst P is u)

-- an error isn't answered as circular
abbrev pub IsOther : ErrorView → Type 0
IsOther e = (index : ℕ) → e ≡ Plain (CircularTypeDefinition index) → ⊥

-- errors of printing, but for that of an index that repeats, aren't answered as circular
pub others : HasPrintErrors IsOther
others = record {
  reading = record {
    of_records = λ e index is. cc;
    no_texts = λ index is. cc;
    past_list = λ module_index index is. cc;
    no_info = λ module_index index is. cc;
    no_module = λ name index is. cc;
    no_export = λ local index is. cc;
    imports_failed = λ index is. cc;
    exports_failed = λ index is. cc;
  };
  no_list = λ index is. cc;
  no_method = λ index is. cc;
  no_procedure = λ index is. cc;
}

-- printing that is refused as circular met a circle
pub circle_met : (w : PrintInputs) → AreGoodPrintInputs IsOther w → {p : Plan} {d : Document} → Unfolds w p d
    → IsGoodPlan IsOther p → (failed : Parts) (index : ℕ) → (run d failed).fault ≡ Circle index → MeetsCircle w p index
circle_met w reads done plan failed index is = absurd (plan failed (Plain (CircularTypeDefinition index)) is index refl)
circle_met w reads (later {inside = inside} {task = task} {d = d} u) plan failed index is =
    by_rule (rule_gives IsOther others w reads inside task) (λ rest. circle_met w reads u rest failed index is) where
      by_rule : RuleGives IsOther w inside task
          → (IsGoodPlan IsOther (rule w inside task) → MeetsCircle w (rule w inside task) index)
          → MeetsCircle w (Later inside task) index
      by_rule (circle again repeats gives) rest =
          let e : document.Fail (OfError (Plain (CircularTypeDefinition again))) ≡ d =
          circular_document w inside task again gives u in
          let same : Circle again ≡ Circle index = rw (← e) at is in
          let one : again ≡ index = cc in
          at_task (subst (Repeats w inside task) one repeats)
      by_rule (good tame) rest = in_rule (rest tame)
circle_met w reads (seq {p = p} {q = q} {a = a} {b = b} x y) plan failed index is =
    by_fault (run a failed).fault refl (λ h. circle_met w reads x plan.0 failed index h)
    (λ h. circle_met w reads y plan.1 (run a failed).failed index h) where
      by_fault : (fault : Option PrintError) → (run a failed).fault ≡ fault
          → ((run a failed).fault ≡ Circle index → MeetsCircle w p index)
          → ((run b (run a failed).failed).fault ≡ Circle index → MeetsCircle w q index) → MeetsCircle w (Seq p q) index
      by_fault None was first second = in_second x (succeeds_always a failed was) (second (rw was at is))
      by_fault (Some f) was first second = in_first (first (was ∙ (rw was at is)))
circle_met w reads (buffered {p = p} {a = a} {after_sigil = after_sigil} {after_other = after_other} x) plan failed
    index is = by_fault (run a failed).fault refl (λ h. circle_met w reads x plan failed index h) where
      by_fault : (fault : Option PrintError) → (run a failed).fault ≡ fault
          → ((run a failed).fault ≡ Circle index → MeetsCircle w p index)
          → MeetsCircle w (Buffered p after_sigil after_other) index
      by_fault None was inner = let h = rw was at is in absurd (cc)
      by_fault (Some f) was inner = in_buffer (inner (was ∙ (rw was at is)))
circle_met w reads (catch {p = p} {a = a} x) plan failed index is =
    by_fault (run a failed).fault refl (λ h. circle_met w reads x plan failed index h) where
      by_fault : (fault : Option PrintError) → (run a failed).fault ≡ fault
          → ((run a failed).fault ≡ Circle index → MeetsCircle w p index) → MeetsCircle w (Catch p) index
      by_fault None was inner = let h = rw was at is in absurd (cc)
      by_fault (Some (TypeNotFound i)) was inner = let h = rw was at is in absurd (cc)
      by_fault (Some (OfError e)) was inner = in_caught (inner (was ∙ (rw was at is)))

-- what fails first fails for both
then_fails : (f : PrintError) (first : Run) (second : Parts → Run) → first.fault ≡ Some f
    → (then_by first.fault first second).fault ≡ Some f
then_fails f first second is = rw is refl

-- what is held back and fails
buffer_fails : (f : PrintError) (inner : Run) (after_sigil after_other : List ℕ) → inner.fault ≡ Some f
    → (buffered_by inner.fault inner after_sigil after_other).fault ≡ Some f
buffer_fails f inner after_sigil after_other is = rw is refl

-- printing that meets a circle is refused as circular
pub circle_refused : {w : PrintInputs} {p : Plan} {d : Document} {index : ℕ} → Unfolds w p d → MeetsCircle w p index
    → (failed : Parts) → (run d failed).fault ≡ Circle index
circle_refused (done {d = d}) m failed = elim m [ ]
circle_refused {w = w} {index = index} (later {inside = inside} {task = task} {d = d} u) (at_task repeats) failed =
    let e : document.Fail (OfError (Plain (CircularTypeDefinition index))) ≡ d =
    circular_document w inside task index (repeats_circular w inside task index repeats) u in
    rw (← e) refl
circle_refused (later u) (in_rule m) failed = circle_refused u m failed
circle_refused {index = index} (seq {a = a} {b = b} x y) (in_first m) failed =
    then_fails (OfError (Plain (CircularTypeDefinition index))) (run a failed) (run b) (circle_refused x m failed)
circle_refused (seq {a = a} {b = b} x y) (in_second {d = d} u succeeds m) failed =
    let e : d ≡ a = unfolds_once u x in
    let passed : (run a failed).fault ≡ None = rw (← e) (succeeds failed) in
    rw passed (circle_refused y m (run a failed).failed)
circle_refused {index = index} (buffered {a = a} {after_sigil = after_sigil} {after_other = after_other} x)
    (in_buffer m) failed = buffer_fails (OfError (Plain (CircularTypeDefinition index)))
    (run a failed) after_sigil after_other (circle_refused x m failed)
circle_refused (catch {a = a} x) (in_caught m) failed = let h = circle_refused x m failed in rw h refl
