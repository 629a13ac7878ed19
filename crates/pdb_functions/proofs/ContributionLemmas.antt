-- The order of contributions, and intervals that are apart.
use Rattle.std.proofs.Common.{◌≡◌, List, [], ◌∷◌, Option, Some, None, refl, inl, inr, arith}
use Rattle.std.specs.List.{AllByRecursion}
use Rattle.std.specs.Cmp.{IsTotalOrder, IsStrictWeakOrder}
use Rattle.std.proofs.lemmas.Cmp.{then_total, on_total, nat_cmp_total}
use Rattle.std.proofs.lemmas.List.Sorted.{ranks_by}
use Rattle.pdb_errors.specs.declared.error.Error.{Error}
use Rattle.pdb_functions.specs.declared.merged_contributions.ModuleSectionContribution.{ModuleSectionContribution}
use Rattle.pdb_errors.specs.Outcomes.{first_refusal}
use Rattle.pdb_functions.specs.MergedContributions.{contribution_cmp, contribution_before}
use Rattle.pdb_functions.specs.LookupLaws.{IsFilled, LiesBefore}

-- contributions have one order
pub contribution_cmp_total : IsTotalOrder contribution_cmp
contribution_cmp_total =
    then_total (on_total (λ m. m.section_index) nat_cmp_total)
    (then_total (on_total (λ m. m.start_offset) nat_cmp_total)
    (then_total (on_total (λ m. m.end_offset) nat_cmp_total) (on_total (λ m. m.module_index) nat_cmp_total)))

-- and so one comes before another, or they tie
pub contributions_rank : IsStrictWeakOrder contribution_before
contributions_rank = ranks_by contribution_cmp_total (λ m. m)

-- what lies before an interval lies before what that lies before
pub lies_before_all : (a b : ModuleSectionContribution) (ms : List ModuleSectionContribution) → LiesBefore a b
    → IsFilled b → AllByRecursion (LiesBefore b) ms → AllByRecursion (LiesBefore a) ms
lies_before_all a b [] first filled others = tt
lies_before_all a b (m ∷ ms) first filled others =
    (joined first others.0, lies_before_all a b ms first filled others.1) where
      joined : LiesBefore a b → LiesBefore b m → LiesBefore a m
      joined (inl p) (inl q) = inl (omega arith)
      joined (inl p) (inr q) = inl (omega arith)
      joined (inr p) (inl q) = inl (omega arith)
      joined (inr p) (inr q) = inr (omega arith, omega arith)

-- one refusal after another is none only where both are
pub both_accepted : (a b : Option Error) → first_refusal a b ≡ None → (a ≡ None) × (b ≡ None)
both_accepted None b is = (refl, is)
both_accepted (Some e) b is = absurd (cc)
