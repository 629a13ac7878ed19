-- Everything that was read is the file's.
use Rattle.std.proofs.Common.{◌∙◌, ap, length, map, refl, sym}
use Rattle.std.proofs.lemmas.List.{length-map}
use Rattle.pdb_msf.proofs.KnownLemmas.{if_file}
use Rattle.pdb_tpi.proofs.SaidLemmas.{of_said}
use Rattle.pdb_tpi.specs.IdLeaves.{ids}
use Rattle.pdb_tpi.specs.TypeLeaves.{types}
use Rattle.pdb_msf.specs.MsfLayout.{with_bytes}
use Rattle.pdb_container.specs.DebugRecords.{module_infos, tabled}
use Rattle.pdb_container.specs.UnnamedCode.{named_modules}
use Rattle.pdb_repairs.specs.Repaired.{repaired_read}
use Rattle.pdb_session.proofs.AddedStreamLemmas.{of_known}
use Rattle.pdb_known.specs.Known.{Known}
use Rattle.pdb_session.proofs.FileLemmas.{all_is_part, are_at, count_of_file, modules_of_file}
use Rattle.pdb_session.proofs.UntoldLemmas.{all_left_of, length_untold}
use Rattle.pdb_session.proofs.ItemsReadLemmas.{written_back}
use Rattle.pdb_session.proofs.module_reader.FileReader.read_all.Goals as goal

pub returns-clause-file : goal.returns-clause-file
returns-clause-file g c =
    if_file _ _ _ (λ file is long.
    let types_from = c.read_all_items.ensures.inputs in
    let ids_from = c.read_all_items-2.ensures.inputs ∙ types_from in
    let modules_from = c.read_modules.ensures.inputs ∙ ids_from in
    let was = sym modules_from ∙ is in
    let first = written_back c.in_ok-modules.modules.items c.deref_mut.result.now c.name_code.new.modules
    c.in_ok-modules.modules.len c.deref_mut.ensures.len c.deref_mut.ensures.value c.name_code.auto.modules in
    let second = written_back _ c.deref_mut-2.result.now c.repair_modules.new.modules c.in_ok-modules.modules.len
    c.deref_mut-2.ensures.len c.deref_mut-2.ensures.value c.repair_modules.auto.modules in
    let read = rw c.deref.ensures.value at (of_known _ file _ _ (ids_from ∙ was) long c.in_ok-modules.ensures.answer) in
    let reader = of_known _ file _ _ was long c.requires.file in
    all_is_part file c.args.self.now.map c.args.self.now.places.items c.args.self.now.lists _
    c.args.known.now c.put_all.new.known c.in_ok-types.types c.in_ok-ids.ids _ long reader
    (of_said _ _ file was c.in_ok-types.ensures.same _ (are_at types file _ _ _ reader.types))
    (of_said _ _ file (types_from ∙ was) c.in_ok-ids.ensures.same _ (are_at ids file _ _ _ reader.ids))
    (second ∙ c.in_ok-repairs.ensures.state ∙ ap (map repaired_read) (c.deref_mut-2.ensures.value ∙ first
    ∙ c.in_ok-name_code.ensures
    ∙ ap (λ room. named_modules room (tabled c.args.known.now.records.global_symbols) c.deref_mut.result.now)
    c.file_length.ensures
    ∙ ap (named_modules c.args.self.now.map.file_length (tabled c.args.known.now.records.global_symbols))
    (c.deref_mut.ensures.value ∙ read)))
    refl refl c.put_all.ensures)

pub returns-clause-untold : goal.returns-clause-untold
returns-clause-untold g c =
    if_file _ _ _ (λ file is long.
    let types_from = c.read_all_items.ensures.inputs in
    let ids_from = c.read_all_items-2.ensures.inputs ∙ types_from in
    let modules_from = c.read_modules.ensures.inputs ∙ ids_from in
    let first = written_back c.in_ok-modules.modules.items c.deref_mut.result.now c.name_code.new.modules
    c.in_ok-modules.modules.len c.deref_mut.ensures.len c.deref_mut.ensures.value c.name_code.auto.modules in
    let read = rw c.deref.ensures.value at (of_known _ file _ _ (ids_from ∙ is) long c.in_ok-modules.ensures.answer) in
    let reader = of_known _ file _ _ is long c.requires.file in
    all_left_of (module_infos (with_bytes file c.args.self.now.map)) c.deref_mut-2.result.now
    c.args.known.now.modules c.put_all.new.known.modules c.args.kept.now.items c.deref-2.result.now
    c.in_ok-repairs.repairs.items
    (c.requires.count ∙ count_of_file file c.args.self.now.map c.args.self.now.places.items c.args.self.now.lists
    c.args.known.now reader)
    (c.deref_mut-2.ensures.value ∙ first ∙ c.in_ok-name_code.ensures
    ∙ ap (λ room. named_modules room (tabled c.args.known.now.records.global_symbols) c.deref_mut.result.now)
    c.file_length.ensures
    ∙ ap (named_modules c.args.self.now.map.file_length (tabled c.args.known.now.records.global_symbols))
    (c.deref_mut.ensures.value ∙ read)
    ∙ modules_of_file file c.args.self.now.map c.args.self.now.places.items c.args.self.now.lists c.args.known.now long
    reader)
    (ap (λ (known : Known). known.modules) c.put_all.ensures) c.deref-2.ensures.value c.in_ok-repairs.ensures.repairs)

pub returns-clause-count : goal.returns-clause-count
returns-clause-count g c =
    let first = written_back c.in_ok-modules.modules.items c.deref_mut.result.now c.name_code.new.modules
    c.in_ok-modules.modules.len c.deref_mut.ensures.len c.deref_mut.ensures.value c.name_code.auto.modules in
    sym (length-map c.in_ok-repairs.repairs.items (λ told. told.items))
    ∙ ap length c.in_ok-repairs.ensures.repairs
    ∙ length_untold c.args.known.now.modules c.deref-2.result.now 0 c.deref_mut-2.result.now
    ∙ ap length (c.deref_mut-2.ensures.value ∙ first)
    ∙ c.name_code.auto.modules ∙ ap length c.deref_mut.ensures.value
    ∙ c.in_ok-modules.ensures.count ∙ ap length c.deref.ensures.value
