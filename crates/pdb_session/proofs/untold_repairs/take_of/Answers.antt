-- Where there is no such module, nothing is kept for it.
use Rattle.std.proofs.Common.{◌∙◌, ◌++◌, ap, append-nil, arith, sym}
use Rattle.pdb_session.proofs.UntoldLemmas.{kept_past, nothing_left}
use Rattle.pdb_session.specs.UntoldRepairs.{kept_at}
use Rattle.pdb_session.proofs.untold_repairs.take_of.Goals as goal

pub returns-else-position-kept-clause-told : goal.returns-else-position-kept-clause-told
returns-else-position-kept-clause-told c =
    sym (ap (λ more. c.args.told.now.items ++ more)
    (kept_past c.args.kept.now c.args.position (omega (arith, c.if-position-kept.false)))
    ∙ append-nil c.args.told.now.items)

pub returns-else-position-kept-clause-left : goal.returns-else-position-kept-clause-left
returns-else-position-kept-clause-left c =
    nothing_left (kept_at c.args.kept.now) c.args.position
    (kept_past c.args.kept.now c.args.position (omega (arith, c.if-position-kept.false)))
