use Rattle.pdb_function_info.proofs.CachedNameLemmas.{ids_later, more_broken}
use Rattle.pdb_function_info.proofs.function_names.FunctionNames.signature.Goals as goal

pub invariant_of-self : goal.invariant_of-self
invariant_of-self g c =
    let more = more_broken _ _ _ c.signature_once.ensures.broken in
    record {
      signatures = rw c.signature_once.ensures.provider c.signature_once.ensures.is_cache;
      ids = ids_later g.P.ModuleProvider.info c.self.inside.formatter c.signature_once.new.formatter
          c.self.inside.ids.entries.items c.signature_once.ensures.type_inputs more c.self.invariant.ids;
    }
