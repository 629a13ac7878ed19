use Rattle.std.proofs.Common.{◌≡◌, drop}
use Rattle.pdb_tables.specs.Runs.{covers}
use Rattle.pdb_tables.proofs.runs.covers.Given as goal

-- the test of what is left of both lists is the test of the lists
abbrev pub invariant-loop-lo : goal.invariant-loop-lo
invariant-loop-lo l = covers l.rest (drop l.lo-index l.others) ≡ covers l.runs l.others
