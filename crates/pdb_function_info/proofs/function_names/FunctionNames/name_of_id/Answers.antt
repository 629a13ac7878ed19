use Rattle.pdb_function_info.proofs.CachedNameLemmas.{signatures_later, more_broken}
use Rattle.pdb_function_info.proofs.function_names.FunctionNames.name_of_id.Goals as goal

pub invariant_of-self : goal.invariant_of-self
invariant_of-self g c =
    let more = more_broken _ _ _ c.id_once.ensures.broken in
    record {
      signatures = signatures_later g.P.ModuleProvider.info
          (g.P.ModuleProvider.info c.self.inside.signatures.provider.now) c.self.inside.formatter
          c.id_once.new.formatter c.self.inside.signatures.texts.entries.items c.id_once.ensures.type_inputs more
          c.self.invariant.signatures;
      ids = c.id_once.ensures.is_cache;
    }
