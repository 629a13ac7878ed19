-- One flag more.
use Rattle.std.proofs.Common.{◌≡◌, ◌∙◌, ◌∷◌, ◌<◌, [], Some, true, ap, length, length-append, arith, slice_get, sym}
use Rattle.pdb_msf.specs.StreamBlocks.{said_in}
use Rattle.pdb_tpi.proofs.SaidLemmas.{of_said}
use Rattle.pdb_tpi.specs.TypePlaces.{list_at}
use Rattle.pdb_session.proofs.DefinitionLemmas.{mark_there, named_more, set_more}
use Rattle.pdb_session.proofs.definitions.settled_sizes.Goals as goal
use Rattle.pdb_session.proofs.definitions.settled_sizes.Goals.{then-marked, else-marked}

pub loop-position-preserved : goal.loop-position-preserved
loop-position-preserved g c = record {
  length = omega (
    arith,
    ap length c.in_ok-push.ensures.items,
    length-append c.loop-position.kept.items (c.in_ok-keeps.keeps ∷ []),
    c.loop-position.invariant.length,
  );
  marked = set_more c.args.marks.now c.loop-position.kept.items _ c.in_ok-keeps.keeps c.in_ok-push.ensures.items
      c.loop-position.invariant.marked (λ keeps.
      let wanted = c.in_ok-keeps.ensures.wanted keeps in
      let within : c.loop-position.position < length c.args.marks.now = omega (arith, c.loop-position-test.true) in
      let here : slice_get c.args.marks.now c.loop-position.position ≡ Some true =
      elim c.if-marked.branch [
        | then-marked w ↦ mark_there c.args.marks.now c.loop-position.position within w.if-marked.true
        | else-marked w ↦ mark_there c.args.marks.now c.loop-position.position within (sym w.wanted-is ∙ wanted)
      ] in
      ap (slice_get c.args.marks.now) c.loop-position.invariant.length ∙ here);
  named = λ stream said lies.
      let before = ap (λ k. said_in k c.args.places.now.records.blocks) c.loop-position.invariant.inputs ∙ said in
      named_more c.args.names.now (list_at c.args.places.now stream) c.loop-position.kept.items _
      c.loop-position.position c.in_ok-keeps.keeps _ c.in_ok-push.ensures.items c.loop-position.invariant.length
      (of_said _ _ stream before c.in_ok-keeps.ensures.answer lies (c.loop-position.invariant.shows stream said))
      (c.loop-position.invariant.named stream said lies);
  shows = λ stream said. of_said _ _ stream (ap (λ k. said_in k c.args.places.now.records.blocks)
      c.loop-position.invariant.inputs ∙ said) c.keeps_size.ensures.shows (c.loop-position.invariant.shows stream said);
  refusals = c.keeps_size.ensures.refusals ∙ c.loop-position.invariant.refusals;
  inputs = c.keeps_size.ensures.inputs ∙ c.loop-position.invariant.inputs;
}
