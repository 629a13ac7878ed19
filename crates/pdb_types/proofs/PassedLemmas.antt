-- The indices that a chain of types passes.
use Rattle.std.proofs.Common.{◌≡◌, inl, inr, ◌∙◌, ℕ, zero, suc, ◌+◌, refl, sym, ap, subst, arith}
use Rattle.std.specs.Prelude.{length, List, [], ◌∷◌, true, cond}
use Rattle.std.specs.declared.cmp.Ordering.TheVariants.{Equal}
use Rattle.std.specs.Ordering.{nat_cmp, is_eq}
use Rattle.std.specs.List.{list_any, AllByRecursion}
use Rattle.std.specs.Cmp.{tied_itself, nat_cmp_total}
use Rattle.std.specs.FinMap.{nat_cmp-IsAntisymmetric}
use Rattle.std.specs.BTreeSet.{BTreeSet, contains, Updates}
use Rattle.std.proofs.lemmas.Bool.{or_right}
use Rattle.pdb_records.specs.Readings.{Read}
use Rattle.pdb_records.specs.declared.types.Item.{Item}
use Rattle.pdb_records.specs.declared.types.TypeIndex.{TypeIndex}
use Rattle.pdb_records.specs.declared.types.TypeData.{TypeData}
use Rattle.pdb_types.specs.declared.type_sizes.TypeSize.{TypeSize}
use Rattle.pdb_types.specs.declared.type_sizes.Step.{Step}
use Rattle.pdb_types.specs.declared.type_sizes.Step.TheVariants.{Ended, Next}
use Rattle.pdb_types.specs.TypeInputs.{LinkInputs}
use Rattle.pdb_types.specs.TypeSizes.{no_size, step, type_size}
use Rattle.pdb_types.specs.SizeLaws.{EndsWith, NeverEnds, Leads}
use Rattle.pdb_types.proofs.ChainLemmas.{steps_to_end, steps_within, EndsOrNot, ends_or_not, type_size-at_end}
use Rattle.pdb_types.proofs.ChainLemmas.{type_size-never}

-- a chain that leads to an index ends as that one does
ends_after : (next : ℕ → Step) (steps k index other : ℕ) (size : TypeSize) → Leads next steps index other
    → EndsWith next k index size → (rest : ℕ) × (steps + rest ≡ k) × EndsWith next rest other size
ends_after next zero k index other size leads ends =
    (k, omega arith, subst (λ (i : ℕ). EndsWith next k i size) leads ends)
ends_after next (suc steps) zero index other size leads ends = let e : Next leads.0 ≡ Ended size =
    sym leads.1 ∙ ends in cc
ends_after next (suc steps) (suc k) index other size leads ends =
    let e : Next ends.0 ≡ Next leads.0 = sym ends.1 ∙ leads.1 in
    let same : ends.0 ≡ leads.0 = cc in
    let after = ends_after next steps k leads.0.0 other size leads.2
    (subst (λ (f : TypeIndex). EndsWith next k f.0 size) same ends.2) in
    (after.0, omega (arith, after.1), after.2)

-- a chain that comes back to its index never ends
never_ends : (next : ℕ → Step) (steps index : ℕ) → Leads next (suc steps) index index → NeverEnds next index
never_ends next steps index back k size ends =
    let after = ends_after next (suc steps) k index index size back ends in
    let equal : k ≡ after.0 = steps_to_end next k after.0 index size size ends after.2 in
    absurd (omega (arith, after.1))

-- a type has the size of the one that its chain goes on with
type_size-next : (link : LinkInputs) (types : Read (Item TypeIndex TypeData)) (pointer module_index index : ℕ)
    (further : TypeIndex) → step link types pointer module_index index ≡ Next further
    → type_size link types pointer module_index index ≡ type_size link types pointer module_index further.0
type_size-next link types pointer module_index index further on =
    by_end (ends_or_not next (length types.items) further.0) where
      next : ℕ → Step
      next = step link types pointer module_index

      by_end : EndsOrNot next (length types.items) further.0
          → type_size link types pointer module_index index ≡ type_size link types pointer module_index further.0
      by_end (inl (k, size, ends)) =
          type_size-at_end link types pointer module_index index (suc k) size (further, on, ends)
          ∙ sym (type_size-at_end link types pointer module_index further.0 k size ends)
      by_end (inr longer) =
          let never : NeverEnds next further.0 = λ k size ends.
          let within = steps_within link types pointer module_index further.0 k size ends in
          let more = longer k size ends in absurd (omega arith) in
          type_size-never link types pointer module_index index (λ k size ends.
          let after = ends_after next 1 k index further.0 size (further, on, refl) ends in never after.0 size after.2)
          ∙ sym (type_size-never link types pointer module_index further.0 never)

-- a type has the size of each that its chain leads to
pub type_size-leads : (link : LinkInputs) (types : Read (Item TypeIndex TypeData))
    (pointer module_index index other steps : ℕ) → Leads (step link types pointer module_index) steps index other
    → type_size link types pointer module_index index ≡ type_size link types pointer module_index other
type_size-leads link types pointer module_index index other zero leads =
    ap (type_size link types pointer module_index) leads
type_size-leads link types pointer module_index index other (suc steps) leads =
    type_size-next link types pointer module_index index leads.0 leads.1
    ∙ type_size-leads link types pointer module_index leads.0.0 other steps leads.2

-- a type whose chain comes back to it has no size
pub type_size-back : (link : LinkInputs) (types : Read (Item TypeIndex TypeData)) (pointer module_index index steps : ℕ)
    → Leads (step link types pointer module_index) (suc steps) index index
    → type_size link types pointer module_index index ≡ no_size
type_size-back link types pointer module_index index steps back =
    type_size-never link types pointer module_index index
    (never_ends (step link types pointer module_index) steps index back)

-- a type whose chain meets an index twice has no size
pub type_size-repeats : (link : LinkInputs) (types : Read (Item TypeIndex TypeData))
    (pointer module_index index repeated before steps : ℕ)
    → Leads (step link types pointer module_index) before index repeated
    → Leads (step link types pointer module_index) (suc steps) repeated repeated
    → type_size link types pointer module_index index ≡ no_size
type_size-repeats link types pointer module_index index repeated before steps leads back =
    type_size-leads link types pointer module_index index repeated before leads
    ∙ type_size-back link types pointer module_index repeated steps back

-- where each index that was passed leads to another, it has the size of that
pub passed_alike : (link : LinkInputs) (types : Read (Item TypeIndex TypeData)) (pointer module_index index : ℕ)
    (size : TypeSize) (passed : BTreeSet ℕ) → type_size link types pointer module_index index ≡ size
    → ((other : ℕ) → contains nat_cmp passed other ≡ true
    → (steps : ℕ) × Leads (step link types pointer module_index) (suc steps) other index)
    → (other : ℕ) → contains nat_cmp passed other ≡ true → type_size link types pointer module_index other ≡ size
passed_alike link types pointer module_index index size passed is each other there =
    let led = each other there in
    type_size-leads link types pointer module_index other index (suc led.0) led.1 ∙ is

-- a chain with one more step
pub leads_more : (next : ℕ → Step) (steps index other : ℕ) (further : TypeIndex) → Leads next steps index other
    → next other ≡ Next further → Leads next (suc steps) index further.0
leads_more next zero index other further leads on = (further, ap next leads ∙ on, refl)
leads_more next (suc steps) index other further leads on =
    (leads.0, leads.1, leads_more next steps leads.0.0 other further leads.2 on)

-- what holds of one more number, and of all that a set has, holds of all that it has with that number
pub with_one : (P : ℕ → Type 0) (old new : BTreeSet ℕ) (index : ℕ) → Updates nat_cmp old new index true → P index
    → ((q : ℕ) → contains nat_cmp old q ≡ true → P q) → (q : ℕ) → contains nat_cmp new q ≡ true → P q
with_one P old new index updates here each q there =
    (elim (nat_cmp index q) as (λ o. nat_cmp index q ≡ o → cond (is_eq o) true (contains nat_cmp old q) ≡ true → P q) [
      | Equal ↦ λ tied _. subst P (nat_cmp-IsAntisymmetric index q tied) here
      | _ ↦ λ _ e. each q e
    ]) refl (sym (updates.0 q) ∙ there)

-- what holds of each number of a set holds of each key
pub each_key : (P : ℕ → Type 0) (keys : List ℕ) → ((q : ℕ) → list_any (λ k. is_eq (nat_cmp q k)) keys ≡ true → P q)
    → AllByRecursion P keys
each_key P [] each = tt
each_key P (k ∷ keys) each = (
  each k (rw (tied_itself nat_cmp_total k) refl),
  each_key P keys
      (λ q there. each q (or_right (is_eq (nat_cmp q k)) (list_any (λ x. is_eq (nat_cmp q x)) keys) there)),
)
