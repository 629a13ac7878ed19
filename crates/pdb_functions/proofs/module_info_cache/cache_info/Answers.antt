use Rattle.pdb_functions.proofs.ModuleInfoLemmas.{infos_nowhere, infos_put, cached_put}
use Rattle.pdb_functions.proofs.module_info_cache.cache_info.Goals as goal

pub returns-clause-is_cache : goal.returns-clause-is_cache
returns-clause-is_cache g c =
    let infos = g.P.ModuleProvider.info c.args.provider.now in
    infos_put infos c.args.modules.now c.args.module_index c.args.entry c.make_slot.new.slots.items
    c.requires.module_there c.requires.info c.in_ok-make_slot.ensures.slot
    (infos_nowhere infos c.args.cached.now.items c.make_slot.new.slots.items c.make_slot.ensures.unchanged c.requires.is_cache)

pub returns-clause-cached : goal.returns-clause-cached
returns-clause-cached g c = cached_put c.args.module_index c.args.entry c.make_slot.new.slots.items
    c.in_ok-make_slot.ensures.slot

pub returns-in_err-make_slot-clause-is_cache : goal.returns-in_err-make_slot-clause-is_cache
returns-in_err-make_slot-clause-is_cache g c =
    infos_nowhere (g.P.ModuleProvider.info c.args.provider.now) c.args.cached.now.items c.make_slot.new.slots.items
    c.make_slot.ensures.unchanged c.requires.is_cache
