use Rattle.std.proofs.Common.{◌≡◌}
use Rattle.std.specs.List.{AllByRecursion}
use Rattle.pdb_types.specs.TypeSizes.{size_of}
use Rattle.pdb_types.specs.TypeCache.{IsCacheAfter}
use Rattle.pdb_types.proofs.type_inputs.TypeInputs.cache_sizes.Given as goal

-- the type cache is what the records say, and the size is that of each index that is left
abbrev pub invariant-loop-index : goal.invariant-loop-index
invariant-loop-index g l = record {
  state : IsCacheAfter g.P.ModuleProvider.info l.self l.fn.cache l.cache;
  left : AllByRecursion (λ index. size_of g.P.ModuleProvider.info l.self l.module_index index ≡ l.size)
      l.index-iterator;
}
