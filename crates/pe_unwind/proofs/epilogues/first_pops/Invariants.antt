-- What all pops do is what those that are left do behind those that were passed.
use Rattle.std.proofs.Common.{◌≡◌, ◌≤◌, ◌-◌, length}
use Rattle.pe_unwind.specs.Epilogues.{first_pops, pops_undone}
use Rattle.pe_unwind.proofs.epilogues.first_pops.Given as goal

abbrev pub invariant-loop : goal.invariant-loop
invariant-loop l = record {
  same : first_pops l.code l.fn.unwound ≡ pops_undone (16 - l.counter) l.rest l.undone;
  shorter : length l.rest ≤ length l.code;
}
