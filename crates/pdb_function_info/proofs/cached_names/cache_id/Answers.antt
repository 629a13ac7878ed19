use Rattle.pdb_function_info.specs.declared.cached_texts.CachedText.{CachedText}
use Rattle.pdb_function_info.specs.declared.name_keys.IdKey.{IdKey}
use Rattle.pdb_function_info.proofs.CachedNameLemmas.{ids_more, ids_same, at_either_end}
use Rattle.pdb_function_info.proofs.cached_names.cache_id.Goals as goal

pub returns : goal.returns
returns g c f is_cache printed =
    let info = g.P.ModuleProvider.info in
    let entry : CachedText IdKey = record { key = c.args.key; text = c.in_ok-text.text } in
    let old = c.args.cached.now.entries.items in
    let new = c.put.new.self.entries.items in
    at_either_end c.put.result
    (λ added. ids_more info f entry old new added (rw c.in_ok-text.ensures printed) is_cache)
    (λ refused. ids_same info f old new refused is_cache)
    c.put.ensures.state c.put.ensures.unchanged_if_refused
