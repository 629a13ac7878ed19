-- Chains that stay among indices of which two lists of types say the same.
use Rattle.std.proofs.Common.{◌≡◌, ◌∙◌, inl, inr, ℕ, zero, suc, ◌<◌, ◌≤◌, Bool, true, length, refl, sym, arith}
use Rattle.pdb_records.specs.Readings.{Read}
use Rattle.pdb_records.specs.declared.types.Item.{Item}
use Rattle.pdb_records.specs.declared.types.TypeIndex.{TypeIndex}
use Rattle.pdb_records.specs.declared.types.TypeData.{TypeData}
use Rattle.pdb_types.proofs.ChainLemmas.{EndsOrNot, ends_or_not, steps_within, type_size-at_end, type_size-never}
use Rattle.pdb_types.specs.SizeLaws.{EndsWith, NeverEnds}
use Rattle.pdb_types.specs.TypeInputs.{LinkInputs}
use Rattle.pdb_types.specs.TypeSizes.{step, type_size}
use Rattle.pdb_types.specs.declared.type_sizes.TypeSize.{TypeSize}
use Rattle.pdb_part_laws.specs.Chains.{AgreeOn, IsClosed}

-- a chain that ends by one list ends by the other, after as many steps and with the same size
ends_alike : (link other_link : LinkInputs) (types others : Read (Item TypeIndex TypeData))
    (pointer module_index : ℕ) (is_in : ℕ → Bool)
    → AgreeOn is_in link types other_link others pointer module_index
    → IsClosed is_in link types pointer module_index
    → (steps index : ℕ) (size : TypeSize) → is_in index ≡ true
    → EndsWith (step link types pointer module_index) steps index size
    → EndsWith (step other_link others pointer module_index) steps index size
ends_alike link other_link types others pointer module_index is_in agree closed zero index size is ends =
    sym (agree index is) ∙ ends
ends_alike link other_link types others pointer module_index is_in agree closed (suc steps) index size is
    (further, goes_on, ends) = (
      further,
      sym (agree index is) ∙ goes_on,
      ends_alike link other_link types others pointer module_index is_in agree closed steps further.0 size
          (closed index further.0 is (further, goes_on, refl)) ends,
    )

-- and the other way round
ends_back : (link other_link : LinkInputs) (types others : Read (Item TypeIndex TypeData))
    (pointer module_index : ℕ) (is_in : ℕ → Bool)
    → AgreeOn is_in link types other_link others pointer module_index
    → IsClosed is_in link types pointer module_index
    → (steps index : ℕ) (size : TypeSize) → is_in index ≡ true
    → EndsWith (step other_link others pointer module_index) steps index size
    → EndsWith (step link types pointer module_index) steps index size
ends_back link other_link types others pointer module_index is_in agree closed zero index size is ends =
    agree index is ∙ ends
ends_back link other_link types others pointer module_index is_in agree closed (suc steps) index size is
    (further, goes_on, ends) =
    let same = agree index is ∙ goes_on in (
      further,
      same,
      ends_back link other_link types others pointer module_index is_in agree closed steps further.0 size
          (closed index further.0 is (further, same, refl)) ends,
    )

-- the sizes of a type agree
pub sizes_agree : (link other_link : LinkInputs) (types others : Read (Item TypeIndex TypeData))
    (pointer module_index : ℕ) (is_in : ℕ → Bool)
    → AgreeOn is_in link types other_link others pointer module_index
    → IsClosed is_in link types pointer module_index
    → (index : ℕ) → is_in index ≡ true
    → type_size link types pointer module_index index ≡ type_size other_link others pointer module_index index
sizes_agree link other_link types others pointer module_index is_in agree closed index is =
    by_end (ends_or_not (step link types pointer module_index) (length types.items) index) where
      by_end : EndsOrNot (step link types pointer module_index) (length types.items) index
          → type_size link types pointer module_index index ≡ type_size other_link others pointer module_index index
      by_end (inl (steps, size, ends)) =
          type_size-at_end link types pointer module_index index steps size ends
          ∙ sym (type_size-at_end other_link others pointer module_index index steps size
          (ends_alike link other_link types others pointer module_index is_in agree closed steps index size is ends))
      by_end (inr after) =
          let never : NeverEnds (step link types pointer module_index) index = λ steps size ends.
          let more : length types.items < steps = after steps size ends in
          let few : steps ≤ length types.items = steps_within link types pointer module_index index steps size ends in
          omega arith in
          let never_there : NeverEnds (step other_link others pointer module_index) index = λ steps size ends.
          never steps size
          (ends_back link other_link types others pointer module_index is_in agree closed steps index size is ends) in
          type_size-never link types pointer module_index index never
          ∙ sym (type_size-never other_link others pointer module_index index never_there)
