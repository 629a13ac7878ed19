use Rattle.pdb_function_info.proofs.CachedNameLemmas.{signatures_later, ids_later, more_broken}
use Rattle.pdb_function_info.proofs.function_names.FunctionNames.format_function.Goals as goal

pub invariant_of-self : goal.invariant_of-self
invariant_of-self g c =
    let more = more_broken _ _ _ c.format_function.ensures.broken in
    record {
      signatures = signatures_later g.P.ModuleProvider.info
          (g.P.ModuleProvider.info c.self.inside.signatures.provider.now) c.self.inside.formatter
          c.format_function.new.self c.self.inside.signatures.texts.entries.items
          c.format_function.ensures.type_inputs more c.self.invariant.signatures;
      ids = ids_later g.P.ModuleProvider.info c.self.inside.formatter c.format_function.new.self
          c.self.inside.ids.entries.items c.format_function.ensures.type_inputs more c.self.invariant.ids;
    }
