-- What all codes come to is what those that are left come to, added to those that were counted.
use Rattle.std.proofs.Common.{◌≡◌, ◌≤◌, false, drop}
use Rattle.pe_unwind_arm64.specs.Epilogues.{own_count_from}
use Rattle.pe_unwind_arm64.proofs.epilogues.own_count_of.Given as goal

abbrev pub invariant-loop-code : goal.invariant-loop-code
invariant-loop-code l = record {
  same : own_count_from 0 false l.codes ≡ own_count_from l.count l.chained (drop l.code-index l.codes);
  few : l.count ≤ l.code-index;
}
