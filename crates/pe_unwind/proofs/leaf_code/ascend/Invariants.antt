-- All entries ascend exactly if those that are left do, behind those that were passed.
use Rattle.std.proofs.Common.{◌≡◌, drop}
use Rattle.pe_unwind.specs.LeafCode.{ascend}
use Rattle.pe_unwind.proofs.leaf_code.ascend.Given as goal

abbrev pub invariant-loop-entry : goal.invariant-loop-entry
invariant-loop-entry l = ascend 0 l.entries ≡ ascend l.reach (drop l.entry-index l.entries)
