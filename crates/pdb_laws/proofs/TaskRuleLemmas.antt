-- What the rule of a task gives: what fails for nothing but some errors, or the refusal of an index that it repeats.
use Rattle.std.proofs.Common.{◌≡◌, ℕ, Bool, true, false, List, [], ◌∷◌, Ok, Err, Result, refl, inl, inr}
use Rattle.std.specs.Prelude.{◌⊎◌}
use Rattle.std.specs.BTreeSet.{insert_key}
use Rattle.std.specs.Ordering.{nat_cmp}
use Rattle.pdb_records.specs.declared.types.TypeData.{TypeData}
use Rattle.pdb_errors.specs.Errors.{ErrorView}
use Rattle.pdb_types.specs.ReadError.{ReadErrorView}
use Rattle.pdb_type_texts.specs.FlagTests.{without_arguments}
use Rattle.pdb_type_texts.specs.Ids.{id_by_kind}
use Rattle.pdb_type_texts.specs.Methods.{on_list}
use Rattle.pdb_type_texts.specs.Plans.{Task, Index, OfType, MethodArguments, Chain, BehindModifier, Modified, Elements}
use Rattle.pdb_type_texts.specs.Plans.{Id, Plan, Later, circular, is_among, opening}
use Rattle.pdb_type_texts.specs.Rules.{behind_modifier, behind_pointer, element, modified, rule}
use Rattle.pdb_type_texts.specs.PrintInputs.{PrintInputs}
use Rattle.pdb_laws.specs.Circles.{Repeats}
use Rattle.pdb_laws.proofs.ReadLemmas.{AreGoodPrintInputs}
use Rattle.pdb_laws.proofs.PlanLemmas.{HasPrintErrors, IsGoodPlan, good_text, good_note, good_on_read, good_on_printed}
use Rattle.pdb_laws.proofs.PlanLemmas.{good_behind_modifier, good_behind_pointer, good_element, good_modified}
use Rattle.pdb_laws.proofs.PlanLemmas.{good_kind, good_on_list, good_id}

-- what the rule of a task gives: the refusal of an index that the task repeats, or nothing that fails for another error
pub data RuleGives (Good : ErrorView → Type 0) (w : PrintInputs) (inside : List ℕ) (task : Task) : Type 0 where
  circle : (index : ℕ) → Repeats w inside task index → rule w inside task ≡ circular index
      → RuleGives Good w inside task
  good : IsGoodPlan Good (rule w inside task) → RuleGives Good w inside task

-- an index that opens
gives_opening : (Good : ErrorView → Type 0) → HasPrintErrors Good → (w : PrintInputs) → AreGoodPrintInputs Good w
    → (inside : List ℕ) (index : ℕ) (next : List ℕ → TypeData → Plan)
    → ((type : TypeData) → IsGoodPlan Good (next (index ∷ inside) type))
    → ((is_among index inside ≡ true) × (opening w inside index next ≡ circular index)) ⊎ IsGoodPlan Good
    (opening w inside index next)
gives_opening Good has w reads inside index next plans = by_test (is_among index inside) refl where
  by_test : (t : Bool) → is_among index inside ≡ t
      → ((is_among index inside ≡ true) × (opening w inside index next ≡ circular index)) ⊎ IsGoodPlan Good
      (opening w inside index next)
  by_test true open_already = inl (open_already, rw open_already refl)
  by_test false closed = inr (rw closed
      (good_on_read Good has (w.read index) (next (index ∷ inside)) (reads.types index) plans))

-- the rule of a task gives one or the other
pub rule_gives : (Good : ErrorView → Type 0) → HasPrintErrors Good → (w : PrintInputs) → AreGoodPrintInputs Good w
    → (inside : List ℕ) (task : Task) → RuleGives Good w inside task
rule_gives Good has w reads inside (Index index) = by_tests (is_among index inside) refl (w.read index) refl where
  by_tests : (t : Bool) → is_among index inside ≡ t → (r : Result TypeData ReadErrorView) → w.read index ≡ r
      → RuleGives Good w inside (Index index)
  by_tests true among (Ok type) is = circle index (refl, among, (type, is)) (rw (is, among) refl)
  by_tests true among (Err read_error_view) is =
      good (rw is (good_note Good has read_error_view (rw is at (reads.types index))))
  by_tests false closed r is = good
      (rw closed (good_on_printed Good has (w.read index) (λ type. Later (index ∷ inside) (OfType type))
      (reads.types index) (λ type. tt)))
rule_gives Good has w reads inside (OfType type) = good (good_kind Good has w inside type)
rule_gives Good has w reads inside (MethodArguments m form) = by_flag (without_arguments w.flags) refl where
  by_opening : without_arguments w.flags ≡ false
      → ((is_among m.argument_list.0 inside ≡ true) ×
      (opening w inside m.argument_list.0 (on_list w m form) ≡ circular m.argument_list.0)) ⊎ IsGoodPlan Good
      (opening w inside m.argument_list.0 (on_list w m form))
      → RuleGives Good w inside (MethodArguments m form)
  by_opening printed (inl again) = circle m.argument_list.0 (refl, again.0, printed) (rw printed again.1)
  by_opening printed (inr plan) = good (rw printed plan)

  by_flag : (t : Bool) → without_arguments w.flags ≡ t → RuleGives Good w inside (MethodArguments m form)
  by_flag true without = good (rw without (good_text Good has []))
  by_flag false printed = by_opening printed
      (gives_opening Good has w reads inside m.argument_list.0 (on_list w m form)
      (good_on_list Good has w reads m form (m.argument_list.0 ∷ inside)))
rule_gives Good has w reads inside (Chain attributes target) =
    by_opening (gives_opening Good has w reads inside target (behind_pointer w attributes)
    (good_behind_pointer Good has w attributes (target ∷ inside))) where
      by_opening : ((is_among target inside ≡ true) ×
          (opening w inside target (behind_pointer w attributes) ≡ circular target)) ⊎ IsGoodPlan Good
          (opening w inside target (behind_pointer w attributes)) → RuleGives Good w inside (Chain attributes target)
      by_opening (inl again) = circle target (refl, again.0) again.1
      by_opening (inr plan) = good plan
rule_gives Good has w reads inside (BehindModifier attributes target) =
    by_opening (gives_opening Good has w reads inside target (behind_modifier w attributes)
    (good_behind_modifier Good has w attributes (target ∷ inside))) where
      by_opening : ((is_among target inside ≡ true) ×
          (opening w inside target (behind_modifier w attributes) ≡ circular target)) ⊎ IsGoodPlan Good
          (opening w inside target (behind_modifier w attributes))
          → RuleGives Good w inside (BehindModifier attributes target)
      by_opening (inl again) = circle target (refl, again.0) again.1
      by_opening (inr plan) = good plan
rule_gives Good has w reads inside (Modified constant target) =
    by_opening (gives_opening Good has w reads inside target (modified w constant)
    (good_modified Good has w constant (target ∷ inside))) where
      by_opening : ((is_among target inside ≡ true) × (opening w inside target (modified w constant) ≡ circular target))
          ⊎ IsGoodPlan Good (opening w inside target (modified w constant))
          → RuleGives Good w inside (Modified constant target)
      by_opening (inl again) = circle target (refl, again.0) again.1
      by_opening (inr plan) = good plan
rule_gives Good has w reads inside (Elements elements levels next) = by_test (is_among next elements) refl where
  by_test : (t : Bool) → is_among next elements ≡ t → RuleGives Good w inside (Elements elements levels next)
  by_test true again = circle next (refl, again) (rw again refl)
  by_test false first = good (rw first
      (good_on_read Good has (w.read next) (element w inside elements levels next) (reads.types next)
      (good_element Good has w inside elements levels next)))
rule_gives Good has w reads inside (Id met index) = by_test (is_among index met) refl where
  by_test : (t : Bool) → is_among index met ≡ t → RuleGives Good w inside (Id met index)
  by_test true again = circle index (refl, again) (rw again refl)
  by_test false first = good (rw first
      (good_on_printed Good has (w.read_id index) (id_by_kind w (insert_key nat_cmp met index)) (reads.ids index)
      (good_id Good has w reads (insert_key nat_cmp met index))))

-- a task that repeats an index is refused as circular, with that index
pub repeats_circular : (w : PrintInputs) (inside : List ℕ) (task : Task) (index : ℕ) → Repeats w inside task index
    → rule w inside task ≡ circular index
repeats_circular w inside (Index i) index (one, among, (type, is)) = rw (is, among, one) refl
repeats_circular w inside (OfType type) index never = absurd never
repeats_circular w inside (MethodArguments m form) index (one, among, printed) = rw (printed, among, one) refl
repeats_circular w inside (Chain attributes target) index (one, among) = rw (among, one) refl
repeats_circular w inside (BehindModifier attributes target) index (one, among) = rw (among, one) refl
repeats_circular w inside (Modified constant target) index (one, among) = rw (among, one) refl
repeats_circular w inside (Elements elements levels next) index (one, among) = rw (among, one) refl
repeats_circular w inside (Id met i) index (one, among) = rw (among, one) refl
