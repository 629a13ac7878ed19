-- So many modules of which nothing is known were counted.
use Rattle.std.proofs.Common.{◌≡◌, replicate}
use Rattle.std.specs.Prelude.{None, Ok}
use Rattle.pdb_container.proofs.front.nothing_known.Given as goal

abbrev pub invariant-loop : goal.invariant-loop
invariant-loop l = l.infos.items ≡ replicate l.counter (Ok None)
