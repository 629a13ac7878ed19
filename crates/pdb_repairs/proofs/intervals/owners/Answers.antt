-- What is painted in the order of sizes gives each byte its owner.
use Rattle.std.proofs.Common.{◌≡◌, ◌∙◌, ap, map, None}
use Rattle.std.specs.Prelude.{reverse}
use Rattle.std.proofs.lemmas.Result.{IfOk-weaker}
use Rattle.pdb_tables.specs.InOrder.{in_order}
use Rattle.pdb_tables.specs.Segments.{painted_in_turn}
use Rattle.pdb_repairs.specs.Intervals.{is_smaller, segment_of}
use Rattle.pdb_repairs.proofs.OwnerLemmas.{owner_painted}
use Rattle.pdb_repairs.proofs.intervals.owners.Goals as goal

pub returns : goal.returns
returns c =
    let sorted : c.in_ok-sorted.sorted.items ≡ in_order is_smaller (reverse c.args.claims.now) =
    c.in_ok-sorted.ensures in
    let mapped : c.deref-2.result.now ≡ map segment_of c.in_ok-sorted.sorted.items =
    c.deref-2.ensures.value ∙ c.in_ok-segments.ensures ∙ ap (map segment_of) c.deref.ensures.value in
    IfOk-weaker c.from_overlapping.result _ _
    (λ table painted byte. painted byte ∙ ap (λ segments. painted_in_turn segments None byte) mapped
    ∙ owner_painted c.args.claims.now c.in_ok-sorted.sorted.items byte sorted) c.from_overlapping.ensures.answer
