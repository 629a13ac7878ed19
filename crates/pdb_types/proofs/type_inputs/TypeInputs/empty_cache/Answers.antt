use Rattle.std.proofs.Common.{◌∙◌, ap}
use Rattle.pdb_types.specs.TypeInputs.{link_inputs}
use Rattle.pdb_types.specs.TypeSizes.{size_of}
use Rattle.pdb_types.proofs.type_inputs.TypeInputs.empty_cache.Goals as goal

pub returns-clause-is_cache : goal.returns-clause-is_cache
returns-clause-is_cache g c =
    let link = link_inputs g.P.ModuleProvider.info c.args.self.now in
    record {
      types = c.new.ensures.types ∙ ap (λ s. s.types) c.self.view_is;
      ids = c.new.ensures.ids ∙ ap (λ s. s.ids) c.self.view_is;
      named = c.new.ensures.named link;
      exports = c.new.ensures.exports link;
      forward = rw c.new.ensures.forward tt;
      sizes = c.new.ensures.sizes (size_of g.P.ModuleProvider.info c.args.self.now);
    }
