-- Intervals at the edges of claims say which module each byte counts for.
use Rattle.std.proofs.Common.{◌∙◌, ap, None}
use Rattle.std.proofs.lemmas.Result.{IfOk-weaker}
use Rattle.pdb_tables.specs.Segments.{value_at}
use Rattle.pdb_repairs.specs.Intervals.{intervals_after}
use Rattle.pdb_repairs.proofs.IntervalLemmas.{are_owners}
use Rattle.pdb_repairs.proofs.intervals.intervals.Goals as goal

pub returns : goal.returns
returns c =
    let owner_of = value_at c.in_ok-owners.owners in
    IfOk-weaker c.intervals_at.result _ _
    (λ v built. are_owners c.args.claims.now owner_of c.in_ok-edges.edges.items v.items c.in_ok-owners.ensures
    c.in_ok-edges.ensures.ascend c.in_ok-edges.ensures.same
    (built ∙ ap (intervals_after owner_of None) c.deref.ensures.value)) c.intervals_at.ensures
