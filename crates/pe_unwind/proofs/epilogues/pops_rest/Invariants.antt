-- What is behind all pops is behind those that are left.
use Rattle.std.proofs.Common.{◌≡◌, ◌≤◌, ◌-◌, length}
use Rattle.pe_unwind.specs.Epilogues.{pops_rest}
use Rattle.pe_unwind.proofs.epilogues.pops_rest.Given as goal

abbrev pub invariant-loop : goal.invariant-loop
invariant-loop l = record {
  same : pops_rest 16 l.code ≡ pops_rest (16 - l.counter) l.rest;
  shorter : length l.rest ≤ length l.code;
}
