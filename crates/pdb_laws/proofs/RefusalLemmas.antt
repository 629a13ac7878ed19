-- Printing is refused for nothing but some errors.
use Rattle.std.proofs.Common.{◌≡◌, ◌∙◌, ℕ, Option, Some, None, refl, subst}
use Rattle.pdb_errors.specs.declared.error.Error.TheVariants.{CircularTypeDefinition}
use Rattle.pdb_errors.specs.Errors.{ErrorView, Plain}
use Rattle.pdb_types.specs.FailedParts.{Parts}
use Rattle.pdb_type_texts.specs.Documents.{Document, PrintError, failure_error, TypeNotFound, OfError, run}
use Rattle.pdb_type_texts.specs.Documents as document
use Rattle.pdb_type_texts.specs.Plans.{Plan}
use Rattle.pdb_type_texts.specs.Rules.{rule}
use Rattle.pdb_type_texts.specs.Unfolding.{Unfolds, done, later, seq, buffered, catch}
use Rattle.pdb_type_texts.specs.PrintInputs.{PrintInputs}
use Rattle.pdb_laws.specs.PrintErrors.{IsPrintError}
use Rattle.pdb_laws.proofs.ReadLemmas.{AreGoodPrintInputs}
use Rattle.pdb_laws.proofs.PlanLemmas.{HasPrintErrors, IsGoodDocument, IsGoodPlan}
use Rattle.pdb_laws.proofs.TaskRuleLemmas.{RuleGives, circle, good, rule_gives}
use Rattle.pdb_laws.proofs.CircleLemmas.{circular_document}

-- a document fails for nothing but these errors, where an index that repeats is among them
pub good_document : (Good : ErrorView → Type 0) → HasPrintErrors Good
    → ((index : ℕ) → Good (Plain (CircularTypeDefinition index))) → (w : PrintInputs) → AreGoodPrintInputs Good w
    → {p : Plan} {d : Document} → Unfolds w p d → IsGoodPlan Good p → IsGoodDocument Good d
good_document Good has circles w reads done plan = plan
good_document Good has circles w reads (later {inside = inside} {task = task} {d = d} u) plan =
    λ failed e is. by_rule failed e is (rule_gives Good has w reads inside task)
    (λ rest. good_document Good has circles w reads u rest failed e is) where
      by_rule : (failed : Parts) (e : ErrorView) → (run d failed).fault ≡ Some (OfError e)
          → RuleGives Good w inside task
          → (IsGoodPlan Good (rule w inside task) → Good e) → Good e
      by_rule failed e is (circle again repeats gives) rest =
          let document_is : document.Fail (OfError (Plain (CircularTypeDefinition again))) ≡ d =
          circular_document w inside task again gives u in
          let fault : Some (OfError (Plain (CircularTypeDefinition again))) ≡ Some (OfError e) =
          rw (← document_is) at is in
          let same : Plain (CircularTypeDefinition again) ≡ e = cc in
          subst Good same (circles again)
      by_rule failed e is (good tame) rest = rest tame
good_document Good has circles w reads (seq {a = a} {b = b} x y) plan =
    λ failed e is. by_fault failed e is (run a failed).fault refl
    (λ h. good_document Good has circles w reads x plan.0 failed e h)
    (λ h. good_document Good has circles w reads y plan.1 (run a failed).failed e h) where
      by_fault : (failed : Parts) (e : ErrorView) → (run (document.Seq a b) failed).fault ≡ Some (OfError e)
          → (fault : Option PrintError) → (run a failed).fault ≡ fault
          → ((run a failed).fault ≡ Some (OfError e) → Good e)
          → ((run b (run a failed).failed).fault ≡ Some (OfError e) → Good e) → Good e
      by_fault failed e is None was first second = second (rw was at is)
      by_fault failed e is (Some f) was first second = first (was ∙ (rw was at is))
good_document Good has circles w reads
    (buffered {a = a} {after_sigil = after_sigil} {after_other = after_other} x) plan =
    λ failed e is. by_fault failed e is (run a failed).fault refl
    (λ h. good_document Good has circles w reads x plan failed e h) where
      by_fault : (failed : Parts) (e : ErrorView)
          → (run (document.Buffered a after_sigil after_other) failed).fault ≡ Some (OfError e)
          → (fault : Option PrintError) → (run a failed).fault ≡ fault
          → ((run a failed).fault ≡ Some (OfError e) → Good e) → Good e
      by_fault failed e is None was inner = let h = rw was at is in absurd (cc)
      by_fault failed e is (Some f) was inner = inner (was ∙ (rw was at is))
good_document Good has circles w reads (catch {a = a} x) plan =
    λ failed e is. by_fault failed e is (run a failed).fault refl
    (λ h. good_document Good has circles w reads x plan failed e h) where
      by_fault : (failed : Parts) (e : ErrorView) → (run (document.Catch a) failed).fault ≡ Some (OfError e)
          → (fault : Option PrintError) → (run a failed).fault ≡ fault
          → ((run a failed).fault ≡ Some (OfError e) → Good e) → Good e
      by_fault failed e is None was inner = let h = rw was at is in absurd (cc)
      by_fault failed e is (Some (TypeNotFound i)) was inner = let h = rw was at is in absurd (cc)
      by_fault failed e is (Some (OfError f)) was inner = inner (was ∙ (rw was at is))

-- errors of printing are those that it may be refused for
pub print_errors : HasPrintErrors IsPrintError
print_errors = record {
  reading = record {
    of_records = λ e. tt;
    no_texts = tt;
    past_list = λ module_index. tt;
    no_info = λ module_index. tt;
    no_module = λ name. tt;
    no_export = λ local. tt;
    imports_failed = tt;
    exports_failed = tt;
  };
  no_list = tt;
  no_method = tt;
  no_procedure = tt;
}

-- a plan's failure is answered by one of them
pub refused_for : (w : PrintInputs) → AreGoodPrintInputs IsPrintError w → {p : Plan} {d : Document} → Unfolds w p d
    → IsGoodPlan IsPrintError p → (failed : Parts) (failure : PrintError) → (run d failed).fault ≡ Some failure
    → IsPrintError (failure_error failure)
refused_for w reads u plan failed (TypeNotFound index) is = tt
refused_for w reads u plan failed (OfError e) is =
    good_document IsPrintError print_errors (λ index. tt) w reads u plan failed e is
