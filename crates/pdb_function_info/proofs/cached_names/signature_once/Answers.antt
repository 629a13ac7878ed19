use Rattle.std.proofs.Common.{◌∙◌, sym}
use Rattle.pdb_type_texts.specs.Printed.{document_of}
use Rattle.pdb_type_texts.specs.Signatures.{signature}
use Rattle.pdb_type_texts.specs.PrintInputs.{formatter_inputs}
use Rattle.pdb_function_info.specs.CachedNames.{IsSignatureCache}
use Rattle.pdb_function_info.proofs.CachedNameLemmas.{signature_key, signatures_later, signature_found, more_broken}
use Rattle.pdb_function_info.proofs.CachedNameLemmas.{printed_by_symbol, printed_now}
use Rattle.pdb_function_info.proofs.cached_names.signature_once.Goals as goal

pub returns-in-Some-clause-answer : goal.returns-in-Some-clause-answer
returns-in-Some-clause-answer g c =
    let key = signature_key c.args.module_index c.args.procedure.symbol_index.0 c.args.procedure.type_index.0 in
    let found = signature_found g.P.ModuleProvider.info
    (g.P.ModuleProvider.info c.args.cached.now.provider.now) c.args.formatter.now
    c.args.cached.now.texts.entries.items key _ _ c.requires.is_cache
    (rw (c.signature_key-key.ensures, c.in-Some.is) at c.in_ok-text.ensures.answer) c.requires.named in
    found.is

pub returns-in-Some-clause-failed : goal.returns-in-Some-clause-failed
returns-in-Some-clause-failed g c =
    let key = signature_key c.args.module_index c.args.procedure.symbol_index.0 c.args.procedure.type_index.0 in
    let found = signature_found g.P.ModuleProvider.info
    (g.P.ModuleProvider.info c.args.cached.now.provider.now) c.args.formatter.now
    c.args.cached.now.texts.entries.items key _ _ c.requires.is_cache
    (rw (c.signature_key-key.ensures, c.in-Some.is) at c.in_ok-text.ensures.answer) c.requires.named in
    sym found.settled

pub returns-in_err-text-2-clause-is_cache : goal.returns-in_err-text-2-clause-is_cache
returns-in_err-text-2-clause-is_cache g c =
    let more = more_broken _ _ _ c.signature_of.ensures.broken in
    signatures_later g.P.ModuleProvider.info
    (g.P.ModuleProvider.info c.args.cached.now.provider.now) c.args.formatter.now c.signature_of.new.formatter
    c.text.new.self.entries.items c.signature_of.ensures.type_inputs more
    (rw c.text.ensures.unchanged c.requires.is_cache)

pub returns-in_err-cache_signature-clause-is_cache : goal.returns-in_err-cache_signature-clause-is_cache
returns-in_err-cache_signature-clause-is_cache g c =
    let info = g.P.ModuleProvider.info in
    let infos = info c.args.cached.now.provider.now in
    let more = more_broken _ _ _ c.signature_of.ensures.broken in
    let before : IsSignatureCache info infos c.args.formatter.now c.text.new.self.entries.items =
    rw c.text.ensures.unchanged c.requires.is_cache in
    let later = signatures_later info infos c.args.formatter.now c.signature_of.new.formatter
    c.text.new.self.entries.items c.signature_of.ensures.type_inputs more before in
    let w = formatter_inputs info c.args.formatter.now.type_inputs c.args.module_index in
    let d = document_of w (signature w c.as_str.result.now c.args.procedure.type_index.0) in
    let printed = printed_now d c.args.formatter.now.failed c.signature_of.new.formatter.failed _
    c.in_ok-text-2.ensures.answer c.in_ok-text-2.ensures.failed in
    let name = c.as_str.ensures.value ∙ c.in_ok-name.ensures.answer in
    let by_symbol = printed_by_symbol info infos c.signature_of.new.formatter c.signature_key-key.result
    c.args.procedure.name.now _ (rw (c.signature_key-key.ensures, c.signature_of.ensures.type_inputs)
    c.requires.named) (rw (c.signature_key-key.ensures, ← name, c.signature_of.ensures.type_inputs) printed) in
    c.cache_signature.ensures.is_cache c.signature_of.new.formatter later by_symbol

pub returns-clause-is_cache : goal.returns-clause-is_cache
returns-clause-is_cache g c =
    let info = g.P.ModuleProvider.info in
    let infos = info c.args.cached.now.provider.now in
    let more = more_broken _ _ _ c.signature_of.ensures.broken in
    let before : IsSignatureCache info infos c.args.formatter.now c.text.new.self.entries.items =
    rw c.text.ensures.unchanged c.requires.is_cache in
    let later = signatures_later info infos c.args.formatter.now c.signature_of.new.formatter
    c.text.new.self.entries.items c.signature_of.ensures.type_inputs more before in
    let w = formatter_inputs info c.args.formatter.now.type_inputs c.args.module_index in
    let d = document_of w (signature w c.as_str.result.now c.args.procedure.type_index.0) in
    let printed = printed_now d c.args.formatter.now.failed c.signature_of.new.formatter.failed _
    c.in_ok-text-2.ensures.answer c.in_ok-text-2.ensures.failed in
    let name = c.as_str.ensures.value ∙ c.in_ok-name.ensures.answer in
    let by_symbol = printed_by_symbol info infos c.signature_of.new.formatter c.signature_key-key.result
    c.args.procedure.name.now _ (rw (c.signature_key-key.ensures, c.signature_of.ensures.type_inputs)
    c.requires.named) (rw (c.signature_key-key.ensures, ← name, c.signature_of.ensures.type_inputs) printed) in
    c.cache_signature.ensures.is_cache c.signature_of.new.formatter later by_symbol
