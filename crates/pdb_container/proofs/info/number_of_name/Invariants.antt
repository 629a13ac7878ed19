-- The number is that which is found among the pairs that are left.
use Rattle.std.proofs.Common.{◌≡◌, ◌-◌}
use Rattle.pdb_container.specs.Info.{named_among, named_stream_number, pairs}
use Rattle.pdb_container.proofs.info.number_of_name.Given as goal

abbrev pub invariant-loop : goal.invariant-loop
invariant-loop l = named_stream_number l.name l.info ≡ named_among l.names l.name (pairs (l.count - l.counter) l.bytes)
