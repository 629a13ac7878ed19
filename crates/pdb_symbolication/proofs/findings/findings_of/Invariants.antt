-- The findings so far, with those of the entries that are left, are all.
use Rattle.std.proofs.Common.{◌≡◌, [], drop}
use Rattle.pdb_symbolication.specs.Findings.{by_bytes, findings_after}
use Rattle.pdb_symbolication.proofs.findings.findings_of.Given as goal

abbrev pub invariant-loop-index : goal.invariant-loop-index
invariant-loop-index l =
    findings_after l.searches l.found l.index (drop l.index l.memory_map) (by_bytes l.findings.entries)
    ≡ findings_after l.searches l.found 0 l.memory_map []
