use Rattle.pdb_function_info.proofs.CachedNameLemmas.{signatures_new, ids_new}
use Rattle.pdb_function_info.proofs.function_names.FunctionNames.new.Goals as goal

pub invariant_of-result : goal.invariant_of-result
invariant_of-result g c = record {
  signatures = signatures_new g.P.ModuleProvider.info
      (g.P.ModuleProvider.info c.new.result.provider.now) c.args.formatter c.new.result.texts.entries.items
      c.new.ensures.texts;
  ids = ids_new g.P.ModuleProvider.info c.args.formatter c.new-2.result.entries.items c.new-2.ensures;
}
