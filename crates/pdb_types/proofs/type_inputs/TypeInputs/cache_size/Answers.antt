use Rattle.std.proofs.Common.{rules}
use Rattle.pdb_types.specs.TypeSizes.{size_of}
use Rattle.pdb_types.proofs.type_inputs.TypeInputs.cache_size.Goals as goal

pub returns-clause-state : goal.returns-clause-state
returns-clause-state g c =
    let sizes = c.insert.ensures.fits (size_of g.P.ModuleProvider.info c.args.self.now) c.requires.is_cache.sizes
    c.requires.size in search rules
