-- One module more.
use Rattle.std.proofs.Common.{◌∙◌, refl, subst, sym}
use Rattle.std.proofs.lemmas.List.Elements.{All-nil, All-push}
use Rattle.std.specs.List.{All}
use Rattle.pdb_msf.proofs.KnownLemmas.{if_file}
use Rattle.pdb_session.proofs.AddedStreamLemmas.{of_known}
use Rattle.pdb_session.specs.FileParts.{IsReadFrom}
use Rattle.pdb_session.proofs.module_reads.read_modules_at.Goals as goal

pub loop-position-init : goal.loop-position-init
loop-position-init g c = record {
  answer = if_file _ _ _ (λ file is long.
      subst (All (IsReadFrom file c.args.map.now c.args.places.now)) (sym c.new-read.ensures.items)
      (All-nil (IsReadFrom file c.args.map.now c.args.places.now)));
  inputs = refl;
}

pub loop-position-preserved : goal.loop-position-preserved
loop-position-preserved g c = record {
  answer = if_file _ _ _ (λ file is long.
      subst (All (IsReadFrom file c.args.map.now c.args.places.now)) (sym c.in_ok-push.ensures.items)
      (All-push (IsReadFrom file c.args.map.now c.args.places.now) c.loop-position.read.items
      c.in_ok-read_module_at.field-0
      (of_known _ file _ _ is long c.loop-position.invariant.answer)
      (of_known _ file _ _ (c.loop-position.invariant.inputs ∙ is) long c.in_ok-read_module_at.ensures.answer)));
  inputs = c.read_module_at.ensures.inputs ∙ c.loop-position.invariant.inputs;
}
