-- The addresses in front of the position are below, and those from there on aren't.
use Rattle.std.proofs.Common.{◌∙◌, ltb, rules}
use Rattle.std.proofs.lemmas.List.Sorted.{IsPartitionPoint-from_clause, IsPartitionedBy-ltb}
use Rattle.pdb_addr2line.proofs.FirstNumberLemmas.{ascending, found_from}
use Rattle.pdb_addr2line.proofs.next_start.first_from.Goals as goal

pub returns : goal.returns
returns c =
    let parted = IsPartitionedBy-ltb (λ start. start) _ c.args.address (ascending _ c.requires) in
    let point = IsPartitionPoint-from_clause (λ start. ltb start c.args.address) _ _
    c.partition_point-position.ensures.partitioned parted (λ a r q k. search rules) in
    c.address_at.ensures
    ∙ found_from c.args.address c.args.addresses.now c.partition_point-position.result point.0 point.1
    c.partition_point-position.ensures.bound
