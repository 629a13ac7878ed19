use Rattle.std.proofs.Common.{◌≡◌}
use Rattle.pdb_types.specs.TypeSizes.{size_of}
use Rattle.pdb_types.proofs.PassedLemmas.{each_key}
use Rattle.pdb_types.proofs.type_inputs.TypeInputs.type_size.Goals as goal

pub cache_sizes-requires-clause-sizes : goal.cache_sizes-requires-clause-sizes
cache_sizes-requires-clause-sizes g c =
    each_key (λ index. size_of g.P.ModuleProvider.info c.args.self.now c.args.module_index index ≡ c.in_ok-size.size)
    c.chain_size.new.passed.keys c.in_ok-size.ensures.passed
