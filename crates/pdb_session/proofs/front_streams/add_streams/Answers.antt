-- One stream more, and all of them.
use Rattle.std.proofs.Common.{◌∙◌, refl, arith}
use Rattle.std.proofs.lemmas.List.{take_all}
use Rattle.pdb_session.proofs.AddedStreamLemmas.{keeps_all, keeps_one_more, none_added, one_more_added}
use Rattle.pdb_session.proofs.front_streams.add_streams.Goals as goal

pub loop-number-init : goal.loop-number-init
loop-number-init g c = record {
  added = λ is. none_added _ c.args.map.now c.args.excerpt.now c.args.numbers.now;
  kept = λ is. keeps_all _ c.args.map.now c.args.excerpt.now;
  excerpt = λ is. is;
  inputs = refl;
  refusals = refl;
}

pub loop-number-preserved : goal.loop-number-preserved
loop-number-preserved g c = record {
  added = λ is.
      let was = c.loop-number.invariant.excerpt is in
      one_more_added _ _ c.args.map.now c.loop-number.excerpt c.add.new.self c.args.numbers.now
      c.loop-number.number-index (omega arith) c.loop-number.invariant.inputs (c.loop-number.invariant.added is)
      (c.in_ok-add.ensures.answer was) (c.in_ok-add.ensures.others was);
  kept = λ is.
      let was = c.loop-number.invariant.excerpt is in
      keeps_one_more _ _ c.args.map.now c.args.excerpt.now c.loop-number.excerpt c.add.new.self _
      c.loop-number.invariant.inputs (c.loop-number.invariant.kept is) (c.in_ok-add.ensures.answer was)
      (c.in_ok-add.ensures.others was);
  excerpt = λ is. c.add.ensures.kept (c.loop-number.invariant.excerpt is);
  inputs = c.add.ensures.inputs ∙ c.loop-number.invariant.inputs;
  refusals = c.add.ensures.refusals ∙ c.loop-number.invariant.refusals;
}

pub returns-clause-added : goal.returns-clause-added
returns-clause-added g c = λ is.
    let whole = take_all c.loop-number.number-index c.args.numbers.now c.loop-number-test.false in
    rw whole at c.loop-number.invariant.added is
