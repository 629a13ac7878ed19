-- The position is that of the first symbol that doesn't start before the place.
use Rattle.std.proofs.Common.{◌≤◌, rules, nat_lt, nat_le, length, ap, arith}
use Rattle.std.proofs.lemmas.List.Sorted.{IsPartitionPoint-from_clause, IsPartitionedBy-ltb}
use Rattle.pdb_codeview.proofs.SymbolRecordLemmas.{first_position, less_is_not_as_much, not_less_is_as_much}
use Rattle.pdb_codeview.proofs.symbol_records.position_at.Goals as goal

pub returns : goal.returns
returns c =
    let parted = IsPartitionedBy-ltb (λ symbol. symbol.start) c.args.symbols.now c.args.place c.requires in
    let point = IsPartitionPoint-from_clause (λ symbol. nat_lt symbol.start c.args.place) _ _
    c.partition_point.ensures.partitioned parted (λ a r q k. search rules) in
    let within : c.partition_point.result ≤ length c.args.symbols.now = c.partition_point.ensures.bound in
    ap (λ n. record { 0 = n }) (first_position (λ symbol. nat_le c.args.place symbol.start) c.args.symbols.now
    c.partition_point.result within (λ k d less. less_is_not_as_much _ _ (point.0 k d (omega arith) less))
    (λ k d more inside. not_less_is_as_much _ _ (point.1 k d more inside)))
