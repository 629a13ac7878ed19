-- The modules that were read by themselves, with the types and ids that they lead to, are those of the file.
use Rattle.std.proofs.Common.{◌∙◌, ap, subst, sym}
use Rattle.pdb_msf.proofs.KnownLemmas.{if_file}
use Rattle.pdb_tpi.proofs.SaidLemmas.{of_said}
use Rattle.pdb_tpi.specs.IdLeaves.{ids}
use Rattle.pdb_tpi.specs.TypeLeaves.{types}
use Rattle.pdb_session.proofs.AddedStreamLemmas.{of_known}
use Rattle.pdb_known.specs.Known.{Known}
use Rattle.pdb_session.proofs.FileLemmas.{are_at, part_with_read, same_marks}
use Rattle.pdb_msf.specs.MsfLayout.{with_bytes}
use Rattle.pdb_container.specs.DebugRecords.{module_infos}
use Rattle.pdb_session.proofs.ReadLemmas.{all_repairs_alone}
use Rattle.pdb_session.specs.FileParts.{with_ids, with_modules}
use Rattle.pdb_session.specs.UntoldRepairs.{LeaveUntold}
use Rattle.pdb_session.proofs.module_reader.FileReader.read_modules.Goals as goal

pub returns-clause-file : goal.returns-clause-file
returns-clause-file g c = if_file _ _ _ (λ file is long.
    let modules_from = c.read_modules_at.ensures.inputs in
    let reached_from = c.add_modules.ensures.inputs ∙ modules_from in
    let types_from = c.read_types.ensures.inputs ∙ reached_from in
    let ids_from = c.read_ids.ensures.inputs ∙ types_from in
    let was = sym ids_from ∙ is in
    let reader = of_known _ file _ _ was long c.requires.file in
    let items = c.put_ids.ensures ∙ ap (λ k. with_ids k c.in_ok-ids.ids) c.put_types.ensures in
    part_with_read file c.args.self.now.map c.args.self.now.places.items c.args.self.now.lists c.args.known.now
    c.put_read_modules.new.known c.in_ok-types.types c.in_ok-ids.ids c.in_ok-modules.modules.items c.requires.left reader
    (of_said _ _ file (reached_from ∙ was) c.in_ok-types.ensures.same _ (are_at types file _ _ _ reader.types))
    (of_said _ _ file (types_from ∙ was) c.in_ok-ids.ensures.same _ (are_at ids file _ _ _ reader.ids))
    (rw c.deref.ensures.value at (of_known _ file _ _ was long c.in_ok-modules.ensures.answer))
    (rw c.deref-2.ensures.value at (c.in_ok-has_any_unnamed_code.ensures c.if-branch.false))
    (c.put_read_modules.ensures.rest
    ∙ ap (λ k. with_modules k c.put_read_modules.new.known.modules c.put_read_modules.new.known.records.module_infos)
    items)
    (rw items at c.put_read_modules.ensures.same))

pub returns-clause-untold : goal.returns-clause-untold
returns-clause-untold g c = if_file _ _ _ (λ file is long.
    let reader = of_known _ file _ _ is long c.requires.file in
    let reads = rw c.deref.ensures.value at (of_known _ file _ _ is long c.in_ok-modules.ensures.answer) in
    let names = rw c.deref-2.ensures.value at (c.in_ok-has_any_unnamed_code.ensures c.if-branch.false) in
    let items = c.put_ids.ensures ∙ ap (λ k. with_ids k c.in_ok-ids.ids) c.put_types.ensures in
    subst (λ marks. LeaveUntold (module_infos (with_bytes file c.args.self.now.map)) marks c.args.kept.now.items
    c.put_read_modules.new.known.modules c.put_read_modules.new.kept.items)
    (ap (λ (known : Known). known.modules) items
    ∙ same_marks c.args.known.now c.in_ok-types.types c.in_ok-ids.ids)
    (c.put_read_modules.ensures.untold (module_infos (with_bytes file c.args.self.now.map))
    (all_repairs_alone file c.args.self.now.map c.args.self.now.places.items reader.places c.in_ok-modules.modules.items
    reads names)))
