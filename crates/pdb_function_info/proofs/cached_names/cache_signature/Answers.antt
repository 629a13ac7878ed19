use Rattle.pdb_function_info.specs.declared.cached_texts.CachedText.{CachedText}
use Rattle.pdb_function_info.specs.declared.name_keys.SignatureKey.{SignatureKey}
use Rattle.pdb_function_info.proofs.CachedNameLemmas.{signatures_more, signatures_same, at_either_end}
use Rattle.pdb_function_info.proofs.cached_names.cache_signature.Goals as goal

pub returns-clause-is_cache : goal.returns-clause-is_cache
returns-clause-is_cache g c f is_cache printed =
    let info = g.P.ModuleProvider.info in
    let infos = info c.args.cached.now.provider.now in
    let entry : CachedText SignatureKey = record { key = c.args.key; text = c.in_ok-text.text } in
    let old = c.args.cached.now.texts.entries.items in
    let new = c.put.new.self.entries.items in
    at_either_end c.put.result
    (λ added. signatures_more info infos f entry old new added
    (λ name named. rw c.in_ok-text.ensures (printed name named)) is_cache)
    (λ refused. signatures_same info infos f old new refused is_cache)
    c.put.ensures.state c.put.ensures.unchanged_if_refused
