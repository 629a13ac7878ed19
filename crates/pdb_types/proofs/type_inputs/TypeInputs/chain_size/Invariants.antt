use Rattle.std.proofs.Common.{◌≡◌, ◌^◌, ℕ, suc, true}
use Rattle.std.specs.BTreeSet.{contains}
use Rattle.std.specs.Ordering.{nat_cmp}
use Rattle.pdb_types.specs.TypeInputs.{link_inputs}
use Rattle.pdb_types.specs.TypeSizes.{step}
use Rattle.pdb_types.specs.SizeLaws.{Leads}
use Rattle.pdb_types.specs.TypeCache.{IsCacheAfter}
use Rattle.pdb_types.proofs.FreeNumbers.{free}
use Rattle.pdb_types.proofs.type_inputs.TypeInputs.chain_size.Given as goal

-- the chain has led here, and the indices that were passed lead here
abbrev pub invariant-chain : goal.invariant-chain
invariant-chain g l =
    let next : ℕ → _ = step (link_inputs g.P.ModuleProvider.info l.self) l.self.types l.self.pointer_size
    l.module_index in
    record {
      state : IsCacheAfter g.P.ModuleProvider.info l.self l.fn.cache l.cache;
      led : (steps : ℕ) × Leads next steps l.fn.index.0 l.index.0;
      passed : (other : ℕ) → contains nat_cmp l.passed other ≡ true
          → (steps : ℕ) × Leads next (suc steps) other l.index.0;
    }

-- the indices that were not passed
abbrev pub decreases-chain : goal.decreases-chain
decreases-chain g l = free (2 ^ 32) (contains nat_cmp l.passed)
