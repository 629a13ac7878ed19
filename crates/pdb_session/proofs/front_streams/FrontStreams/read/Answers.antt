-- The excerpt has the front of the file: the two streams that name others, and those that they name.
use Rattle.std.proofs.Common.{◌≡◌, ◌∙◌, ℕ, List, length, Some, ap, subst, sym, arith}
use Rattle.pdb_msf.proofs.KnownLemmas.{if_file}
use Rattle.pdb_msf.specs.Msf.{stream_of}
use Rattle.pdb_msf.specs.MsfLayout.{with_bytes}
use Rattle.pdb_tpi.proofs.SaidLemmas.{of_said}
use Rattle.pdb_session.proofs.AddedStreamLemmas.{of_known}
use Rattle.pdb_session.proofs.FrontStreamLemmas.{has_front}
use Rattle.pdb_session.proofs.ListLemmas.{has_ids, has_no_ids, has_types, same_length}
use Rattle.pdb_container.specs.Info.{features}
use Rattle.pdb_container.specs.TypeRecords.{id_information}
use Rattle.pdb_tpi.specs.IdLeaves.{ids}
use Rattle.pdb_session.specs.FileParts.{HasItems}
use Rattle.pdb_session.specs.FrontStreams.{HasStreams}
use Rattle.pdb_session.proofs.front_streams.FrontStreams.read.Goals as goal
use Rattle.pdb_session.proofs.front_streams.FrontStreams.read.Goals.{else-front, then-front+in_ok-blocks-2+in_ok-ids}

pub returns-clause-front : goal.returns-clause-front
returns-clause-front g c =
    let new = c.in_ok-excerpt.ensures in
    let first = c.add.ensures.kept new in
    let second = c.add-2.ensures.kept first in
    let all = c.add_streams.ensures.excerpt second in
    if_file _ _ _ (λ file is long.
    let after_first = c.add.ensures.inputs ∙ is in
    let after_second = c.add-2.ensures.inputs ∙ after_first in
    has_front c.add-2.new.self c.add_streams.new.excerpt (with_bytes file c.args.map.now) second.0 all.0
    (c.in_ok-add-2.ensures.others first 1 (λ same. omega (arith, same))
    ∙ of_known _ file _ _ is long (c.in_ok-add.ensures.answer new))
    (of_known _ file _ _ after_first long (c.in_ok-add-2.ensures.answer first))
    (of_known _ file _ _ after_second long (c.in_ok-add_streams.ensures.kept second))
    (subst (HasStreams c.add_streams.new.excerpt (with_bytes file c.args.map.now))
    (c.deref.ensures.value ∙ c.in_ok-front.ensures.numbers)
    (of_known _ file _ _ after_second long (c.in_ok-add_streams.ensures.added second))))

pub returns-clause-types : goal.returns-clause-types
returns-clause-types g c =
    if_file _ _ _ (λ file is long.
    has_types (with_bytes file c.args.map.now) file c.in_ok-blocks.field-0 c.in_ok-types.types
    (c.in_ok-blocks.ensures.answer file long)
    (of_said _ _ file (c.add_streams.ensures.inputs ∙ c.add-2.ensures.inputs ∙ c.add.ensures.inputs ∙ is)
    c.in_ok-types.ensures.answer
    (same_length file c.args.map.now.file_length c.in_ok-blocks.field-0 long c.in_ok-blocks.ensures.length)))

pub returns-clause-ids : goal.returns-clause-ids
returns-clause-ids g c =
    let info : (file : List ℕ) → g.S.Source.bytes c.args.source.now ≡ Some file
    → length file ≡ c.args.map.now.file_length
    → stream_of c.add-2.new.self 1 ≡ stream_of (with_bytes file c.args.map.now) 1 = λ file is long.
    c.in_ok-add-2.ensures.others (c.add.ensures.kept c.in_ok-excerpt.ensures) 1 (λ same. omega (arith, same))
    ∙ of_known _ file _ _ is long (c.in_ok-add.ensures.answer c.in_ok-excerpt.ensures) in
    elim c.if-front.branch [
      | then-front+in_ok-blocks-2+in_ok-ids w ↦ if_file _ _ _ (λ file is long.
          subst (λ list. HasItems ids file list (id_information (with_bytes file c.args.map.now))) (sym w.ids-is)
          (has_ids (with_bytes file c.args.map.now) file w.in_ok-blocks-2.field-0 w.in_ok-ids.ids
          (ap (λ bytes. (features bytes).ids) (sym (info file is long)) ∙ sym c.in_ok-front.ensures.has_ids ∙ w.if-front.true)
          (w.in_ok-blocks-2.ensures.answer file long)
          (of_said _ _ file (c.type_list.ensures.inputs ∙ c.add_streams.ensures.inputs ∙ c.add-2.ensures.inputs
          ∙ c.add.ensures.inputs ∙ is) w.in_ok-ids.ensures.answer
          (same_length file c.args.map.now.file_length w.in_ok-blocks-2.field-0 long w.in_ok-blocks-2.ensures.length))))
      | else-front w ↦ if_file _ _ _ (λ file is long.
          subst (λ list. HasItems ids file list (id_information (with_bytes file c.args.map.now))) (sym w.ids-is)
          (has_no_ids (with_bytes file c.args.map.now)
          (ap (λ bytes. (features bytes).ids) (sym (info file is long)) ∙ sym c.in_ok-front.ensures.has_ids ∙ w.if-front.false)))
    ]
