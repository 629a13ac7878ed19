-- The search finds the place where the bounds are parted.
use Rattle.std.proofs.Common.{rules}
use Rattle.std.specs.Prelude.{nat_lt}
use Rattle.std.proofs.lemmas.List.Sorted.{IsPartitionPoint-from_clause}
use Rattle.pdb_inline.proofs.ProcedureStackLemmas.{counted_to_place, bounds_parted}
use Rattle.pdb_inline.proofs.procedure_stacks.bounds_below.Goals as goal

pub returns : goal.returns
returns c =
    let bounds = c.args.bounds.now in
    let x = c.args.number in
    counted_to_place (λ bound. nat_lt bound x) bounds c.partition_point.result c.partition_point.ensures.bound
    (IsPartitionPoint-from_clause (λ bound. nat_lt bound x) bounds c.partition_point.result
    c.partition_point.ensures.partitioned (bounds_parted bounds x c.requires) (λ a r f called. search rules))
