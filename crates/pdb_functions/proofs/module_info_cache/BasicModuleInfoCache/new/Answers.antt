use Rattle.pdb_functions.proofs.ModuleInfoLemmas.{infos_new}
use Rattle.pdb_functions.proofs.module_info_cache.BasicModuleInfoCache.new.Goals as goal

pub invariant_of-result : goal.invariant_of-result
invariant_of-result g c = infos_new (g.P.ModuleProvider.info c.args.provider.now) c.new.result.items c.new.ensures.items
