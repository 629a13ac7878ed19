-- Chains of types.
use Rattle.std.proofs.Common.{◌≡◌, ℕ, zero, suc, ap}
use Rattle.pdb_types.specs.declared.type_sizes.TypeSize.{TypeSize}
use Rattle.pdb_types.specs.declared.type_sizes.Step.{Step}
use Rattle.pdb_types.specs.declared.type_sizes.Step.TheVariants.{Ended}
use Rattle.pdb_types.specs.TypeSizes.{size_along, ended, onward}

-- a chain that ends here has the size of its end, however many steps it may have
pub size_along-ended : (next : ℕ → Step) (steps index : ℕ) (size : TypeSize) → next index ≡ Ended size
    → size_along next steps index ≡ size
size_along-ended next zero index size here = ap ended here
size_along-ended next (suc steps) index size here = ap (onward (size_along next steps)) here
