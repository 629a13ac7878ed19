use Rattle.std.proofs.Common.{◌∙◌, ap, sym, arith}
use Rattle.pdb_functions.proofs.ModuleInfoLemmas.{infos_at}
use Rattle.pdb_tables.specs.Slots.{held}
use Rattle.pdb_functions.proofs.module_info_cache.BasicModuleInfoCache.look_up.Goals as goal

pub returns-in-Some : goal.returns-in-Some
returns-in-Some g c =
    let cached = rw (← c.self.view_is) at c.requires.cached in
    rw (← c.self.view_is) (c.as_ref.ensures.value ∙ infos_at
    (g.P.ModuleProvider.info c.self.inside.provider.now) c.args.modules.now c.args.module_index c.in-Some.entry.now
    c.self.inside.cached.items c.self.invariant (omega arith) cached
    (sym (c.in-Some.ensures ∙ ap (λ cached. held cached c.args.module_index) c.deref.ensures.value)))
