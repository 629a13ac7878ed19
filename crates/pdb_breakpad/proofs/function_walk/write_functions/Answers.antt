-- One piece more, and all of them.
use Rattle.std.proofs.Common.{◌≡◌, ◌∙◌, ◌<◌, ◌^◌, ap, arith, get_or, length, slice_get, subst, sym}
use Rattle.std.specs.Prelude.{Some}
use Rattle.std.proofs.lemmas.List.{get_or_default, get_or_past}
use Rattle.std.proofs.lemmas.Option.{get_or_from_slice_get, slice_get-get_or}
use Rattle.pdb_breakpad.specs.FunctionWalk.{IsWalked}
use Rattle.pdb_breakpad.proofs.WalkLemmas.{not_walked, piece_fits, walked_all, walked_on}
use Rattle.pdb_breakpad.proofs.function_walk.write_functions.Goals as goal

pub loop-position-init : goal.loop-position-init
loop-position-init g c =
    let answers = g.S.FrameSource.answers in
    record {
      walked = not_walked c.args.parameters.now answers c.args.source.now c.args.numbers.now
          (get_or c.args.points.now 0 (2 ^ 32))
          (g.W.Write.contents c.args.out.now)
          (get_or_from_slice_get c.args.points.now 0 0 (2 ^ 32) c.requires.pieces.from_zero);
      names = ((λ number name is. is), (λ number name is. is));
      inputs = λ address answer. ((λ is. is), (λ is. is));
    }

pub loop-position-preserved : goal.loop-position-preserved
loop-position-preserved g c =
    let answers = g.S.FrameSource.answers in
    let points = c.args.points.now in
    let piece = c.piece_at-piece.result in
    let before = c.loop-position.invariant in
    let step = c.in_ok-walked.ensures in
    let there : c.loop-position.position < length points = c.loop-position-test.true in
    let first : get_or points c.loop-position.position (2 ^ 32) ≡ piece.first
    = get_or_default points c.loop-position.position (2 ^ 32) 0 there ∙ sym c.piece_at-piece.ensures.first in
    let point : slice_get points c.loop-position.position ≡ Some piece.first
    = slice_get-get_or points c.loop-position.position 0 there ∙ ap Some (sym c.piece_at-piece.ensures.first) in
    record {
      walked = subst (λ next. IsWalked c.args.parameters.now answers c.args.source.now c.walk_piece.new.numbers next
          c.in_ok-walked.walked
          (g.W.Write.contents c.args.out.now) (g.W.Write.contents c.walk_piece.new.out)) c.piece_at-piece.ensures.last
          (walked_on c.args.parameters.now answers c.args.source.now c.loop-position.source c.loop-position.numbers
          c.walk_piece.new.numbers
          piece.first piece.last c.loop-position.walked c.in_ok-walked.walked (g.W.Write.contents c.args.out.now)
          (g.W.Write.contents c.loop-position.out) (g.W.Write.contents c.walk_piece.new.out) piece.ordered step.names
          before.inputs
          (λ a answer from to. c.requires.pieces.same c.loop-position.position piece.first a answer point from
          (omega (arith, to, c.piece_at-piece.ensures.last))
          (omega (
            arith,
            to,
            c.piece_at-piece.ensures.last,
            piece_fits points c.loop-position.position (λ i. omega (arith, c.type_inv.points i)),
          )))
          (subst (λ next. IsWalked c.args.parameters.now answers c.args.source.now c.loop-position.numbers next c.loop-position.walked
          (g.W.Write.contents c.args.out.now) (g.W.Write.contents c.loop-position.out)) first before.walked)
          step.step step.open);
      names = (
        (λ number name is. step.names.0 number name (before.names.0 number name is)),
        (λ number name is. step.names.1 number name (before.names.1 number name is)),
      );
      inputs = λ address answer. (
        (λ is. (before.inputs address answer).0 ((step.inputs address answer).0 is)),
        (λ is. (step.inputs address answer).1 ((before.inputs address answer).1 is)),
      );
    }

pub returns-clause-answer : goal.returns-clause-answer
returns-clause-answer g c =
    let answers = g.S.FrameSource.answers in
    let end : get_or c.args.points.now c.loop-position.position (2 ^ 32) ≡ 2 ^ 32
    = get_or_past c.args.points.now c.loop-position.position (2 ^ 32) c.loop-position-test.false in
    walked_all c.args.parameters.now answers c.args.source.now c.loop-position.numbers c.loop-position.walked
    (g.W.Write.contents c.args.out.now) (g.W.Write.contents c.loop-position.out)
    (g.W.Write.contents c.write_ended.new.out)
    (subst (λ next. IsWalked c.args.parameters.now answers c.args.source.now c.loop-position.numbers next c.loop-position.walked
    (g.W.Write.contents c.args.out.now) (g.W.Write.contents c.loop-position.out)) end
    c.loop-position.invariant.walked)
    c.in_ok-write_ended.ensures.readable c.in_ok-write_ended.ensures.written
