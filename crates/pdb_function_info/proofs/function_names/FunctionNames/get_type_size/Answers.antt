use Rattle.pdb_function_info.proofs.CachedNameLemmas.{signatures_later, ids_later, more_met}
use Rattle.pdb_function_info.proofs.function_names.FunctionNames.get_type_size.Goals as goal

pub invariant_of-self : goal.invariant_of-self
invariant_of-self g c =
    let more = more_met c.get_type_size.result _ _ _ c.get_type_size.ensures.failed
    c.get_type_size.ensures.unchanged_if_refused in
    record {
      signatures = signatures_later g.P.ModuleProvider.info
          (g.P.ModuleProvider.info c.self.inside.signatures.provider.now) c.self.inside.formatter
          c.get_type_size.new.self c.self.inside.signatures.texts.entries.items c.get_type_size.ensures.type_inputs
          more c.self.invariant.signatures;
      ids = ids_later g.P.ModuleProvider.info c.self.inside.formatter c.get_type_size.new.self
          c.self.inside.ids.entries.items c.get_type_size.ensures.type_inputs more c.self.invariant.ids;
    }
