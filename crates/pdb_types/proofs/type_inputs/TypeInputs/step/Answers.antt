use Rattle.pdb_types.specs.TypeInputs.{link_inputs}
use Rattle.pdb_types.proofs.ReadingLemmas.{reading-entry}
use Rattle.pdb_types.proofs.type_inputs.TypeInputs.step.Goals as goal

pub end_size-requires-clause-read : goal.end_size-requires-clause-read
end_size-requires-clause-read g c =
    reading-entry (λ i. i.0) (link_inputs g.P.ModuleProvider.info c.args.self.now) c.args.self.now.types
    c.args.module_index c.args.index.0 _ _ c.in-Ok.ensures.answer
