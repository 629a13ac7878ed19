-- Where nothing is lost, all contributions are kept, and nothing is told.
use Rattle.std.proofs.Common.{◌≡◌, Bool, true, false, cond, List, [], ◌∷◌, map, refl, sym, ap}
use Rattle.std.specs.Prelude.{◌&&◌, not}
use Rattle.std.specs.List.{filter, list_all}
use Rattle.std.specs.Ordering.{nat_cmp}
use Rattle.pdb_records.specs.declared.addresses.ImageSectionHeader.{ImageSectionHeader}
use Rattle.pdb_records.specs.declared.debug_information.DebugInformation.{DebugInformation}
use Rattle.pdb_records.specs.declared.debug_information.SectionContribution.{SectionContribution}
use Rattle.pdb_tables.specs.Keyed.{first_of_each_key}
use Rattle.pdb_repairs.specs.Claims.{claims_of, is_retained, repairs_of_claims, retained, with_retained}
use Rattle.pdb_repairs.specs.Overlaps.{may_lose}
use Rattle.pdb_repairs.specs.declared.repairs.Repair.{Repair}
use Rattle.pdb_repairs.specs.declared.repairs.Repair.TheVariants.{ModuleContributions}
use Rattle.pdb_repairs.proofs.ApartLemmas.{nothing_is_lost}

-- where all pass a test, those that do are all
all_stay : {T : Type 0} (p : T → Bool) (xs : List T) → list_all p xs ≡ true → filter p xs ≡ xs
all_stay p [] all = refl
all_stay {T = T} p (x ∷ xs) all = by_test (p x) all (all_stay p xs) where
  by_test : (t : Bool) → (t && list_all p xs) ≡ true → (list_all p xs ≡ true → filter p xs ≡ xs)
      → cond t (x ∷ filter p xs) (filter p xs) ≡ x ∷ xs
  by_test true all rest = ap (λ (ys : List T). x ∷ ys) (rest all)
  by_test false all rest = absurd (cc)

-- and none fails it
none_fail : {T : Type 0} (p : T → Bool) (xs : List T) → list_all p xs ≡ true → filter (λ x. not (p x)) xs ≡ []
none_fail p [] all = refl
none_fail {T = T} p (x ∷ xs) all = by_test (p x) all (none_fail p xs) where
  by_test : (t : Bool) → (t && list_all p xs) ≡ true → (list_all p xs ≡ true → filter (λ x. not (p x)) xs ≡ [])
      → cond (not t) (x ∷ filter (λ x. not (p x)) xs) (filter (λ x. not (p x)) xs) ≡ []
  by_test true all rest = rest all
  by_test false all rest = absurd (cc)

-- debug information stays where nothing is lost
pub nothing_changes : (sections : List ImageSectionHeader) (debug : DebugInformation)
    → may_lose sections debug.section_contributions.items (claims_of sections debug.section_contributions.items) ≡ false
    → debug ≡ with_retained sections debug
nothing_changes sections debug none =
    let items : List SectionContribution = debug.section_contributions.items in
    let same : retained sections items ≡ items =
    all_stay (is_retained sections (claims_of sections items)) items (nothing_is_lost sections items none) in
    let with_items : List SectionContribution → DebugInformation = λ kept. record debug {
      section_contributions = record debug.section_contributions { items = kept };
    } in
    ap with_items (sym same)

-- nothing is told where nothing is lost
pub nothing_is_told : (sections : List ImageSectionHeader) (debug : DebugInformation)
    → may_lose sections debug.section_contributions.items (claims_of sections debug.section_contributions.items) ≡ false
    → repairs_of_claims sections debug ≡ []
nothing_is_told sections debug none =
    let items : List SectionContribution = debug.section_contributions.items in
    let told : List SectionContribution → List Repair = λ lost.
    map ModuleContributions (first_of_each_key nat_cmp (λ m. m) (map (λ c. c.«module») lost)) in
    ap told (none_fail (is_retained sections (claims_of sections items)) items (nothing_is_lost sections items none))
