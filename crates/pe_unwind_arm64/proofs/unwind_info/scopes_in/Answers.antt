-- One epilogue more, and one that is refused.
use Rattle.std.proofs.lemmas.Result.{err_from_is_err_and}
use Rattle.pe_unwind_arm64.proofs.ListLemmas.{one_scope_more, refused_scope}
use Rattle.pe_unwind_arm64.proofs.unwind_info.scopes_in.Goals as goal

pub loop-preserved : goal.loop-preserved
loop-preserved c =
    rw (c.bytes_behind-rest.ensures.answer) (one_scope_more c.args.count c.loop.counter c.args.length c.loop.reach
    c.args.codes.now c.loop.rest.now c.in_ok-one.one _ _ _ c.loop-test.true
    (rw (c.first_scope.ensures.answer) at c.in_ok-one.ensures.answer)
    c.in_ok-push.ensures.items c.loop.invariant)

pub returns-in_err-one : goal.returns-in_err-one
returns-in_err-one c =
    let p = err_from_is_err_and c.from_residual.result c.from_residual.ensures.1 in
    rw (p.1, p.2) (record {
      answer = refused_scope c.args.count c.loop.counter c.args.length c.loop.reach c.args.codes.now c.loop.rest.now
          c.in_err-one.field-0.0 _ c.loop.read.items c.loop-test.true
          (rw (c.first_scope.ensures.answer) at c.in_err-one.ensures.answer) c.loop.invariant;
    })
