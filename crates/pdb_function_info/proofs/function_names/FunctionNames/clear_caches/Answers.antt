use Rattle.pdb_function_info.proofs.CachedNameLemmas.{signatures_new, ids_new}
use Rattle.pdb_function_info.proofs.function_names.FunctionNames.clear_caches.Goals as goal

pub invariant_of-self : goal.invariant_of-self
invariant_of-self g c = record {
  signatures = signatures_new g.P.ModuleProvider.info
      (g.P.ModuleProvider.info c.new.result.provider.now) c.self.inside.formatter c.new.result.texts.entries.items
      c.new.ensures.texts;
  ids = ids_new g.P.ModuleProvider.info c.self.inside.formatter c.new-2.result.entries.items c.new-2.ensures;
}
