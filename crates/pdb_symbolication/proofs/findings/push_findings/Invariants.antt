-- What is written, and the findings that are left, are all that was to be written.
use Rattle.std.proofs.Common.{◌≡◌, ◌++◌, map, string_bytes}
use Rattle.pdb_symbolication.specs.Findings.{by_bytes, finding_member}
use Rattle.pdb_symbolication.specs.JsonObjects.{separated}
use Rattle.pdb_symbolication.proofs.JsonLemmas.{left}
use Rattle.pdb_symbolication.proofs.findings.push_findings.Given as goal

abbrev pub invariant-loop-key : goal.invariant-loop-key
invariant-loop-key l = string_bytes l.text ++ left l.first (map finding_member (by_bytes l.key-iterator))
    ≡ string_bytes l.initial.text ++ separated (map finding_member (by_bytes l.findings.entries))
