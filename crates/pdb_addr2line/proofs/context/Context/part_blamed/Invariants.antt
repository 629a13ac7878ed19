use Rattle.pdb_functions.specs.ModuleInfoCache.{readable_info}
use Rattle.pdb_addr2line.proofs.context.Context.part_blamed.Given as goal

abbrev pub ghost-part_blamed_by : goal.ghost-part_blamed_by
ghost-part_blamed_by g a =
    readable_info (g.P.ModuleProvider.info a.caches.now.infos.provider) a.modules.now
