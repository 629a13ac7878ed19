use Rattle.std.proofs.Common.{sym}
use Rattle.pdb_type_texts.specs.Ids.{id_of_index}
use Rattle.pdb_type_texts.specs.Printed.{document_of}
use Rattle.pdb_type_texts.specs.PrintInputs.{formatter_inputs}
use Rattle.pdb_function_info.proofs.CachedNameLemmas.{id_key, ids_later, id_found, more_broken, printed_now}
use Rattle.pdb_function_info.proofs.cached_names.id_once.Goals as goal

pub returns-in-Some-clause-answer : goal.returns-in-Some-clause-answer
returns-in-Some-clause-answer g c =
    let found = id_found g.P.ModuleProvider.info c.args.formatter.now c.args.cached.now.entries.items
    (id_key c.args.module_index c.args.id.0) _ c.requires.is_cache
    (rw (c.id_key-key.ensures, c.in-Some.is) at c.in_ok-text.ensures.answer) in
    found.is

pub returns-in-Some-clause-failed : goal.returns-in-Some-clause-failed
returns-in-Some-clause-failed g c =
    let found = id_found g.P.ModuleProvider.info c.args.formatter.now c.args.cached.now.entries.items
    (id_key c.args.module_index c.args.id.0) _ c.requires.is_cache
    (rw (c.id_key-key.ensures, c.in-Some.is) at c.in_ok-text.ensures.answer) in
    sym found.settled

pub returns-in_err-text-2-clause-is_cache : goal.returns-in_err-text-2-clause-is_cache
returns-in_err-text-2-clause-is_cache g c =
    let more = more_broken _ _ _ c.name_of_id.ensures.broken in
    ids_later g.P.ModuleProvider.info c.args.formatter.now c.name_of_id.new.formatter c.text.new.self.entries.items
    c.name_of_id.ensures.type_inputs more (rw c.text.ensures.unchanged c.requires.is_cache)

pub returns-in_err-cache_id-clause-is_cache : goal.returns-in_err-cache_id-clause-is_cache
returns-in_err-cache_id-clause-is_cache g c =
    let more = more_broken _ _ _ c.name_of_id.ensures.broken in
    let later = ids_later g.P.ModuleProvider.info c.args.formatter.now c.name_of_id.new.formatter
    c.text.new.self.entries.items c.name_of_id.ensures.type_inputs more
    (rw c.text.ensures.unchanged c.requires.is_cache) in
    let d = document_of (formatter_inputs g.P.ModuleProvider.info c.args.formatter.now.type_inputs
    c.args.module_index) (id_of_index c.args.id.0) in
    let printed = printed_now d c.args.formatter.now.failed c.name_of_id.new.formatter.failed _
    c.in_ok-text-2.ensures.answer c.in_ok-text-2.ensures.failed in
    c.cache_id.ensures c.name_of_id.new.formatter later
    (rw (c.id_key-key.ensures, c.name_of_id.ensures.type_inputs) printed)

pub returns-clause-is_cache : goal.returns-clause-is_cache
returns-clause-is_cache g c =
    let more = more_broken _ _ _ c.name_of_id.ensures.broken in
    let later = ids_later g.P.ModuleProvider.info c.args.formatter.now c.name_of_id.new.formatter
    c.text.new.self.entries.items c.name_of_id.ensures.type_inputs more
    (rw c.text.ensures.unchanged c.requires.is_cache) in
    let d = document_of (formatter_inputs g.P.ModuleProvider.info c.args.formatter.now.type_inputs
    c.args.module_index) (id_of_index c.args.id.0) in
    let printed = printed_now d c.args.formatter.now.failed c.name_of_id.new.formatter.failed _
    c.in_ok-text-2.ensures.answer c.in_ok-text-2.ensures.failed in
    c.cache_id.ensures c.name_of_id.new.formatter later
    (rw (c.id_key-key.ensures, c.name_of_id.ensures.type_inputs) printed)
