-- The primitives are those that were listed and those that are left.
use Rattle.std.proofs.Common.{◌≡◌, ◌++◌, drop}
use Rattle.pdb_tpi.specs.Primitives.{primitives_in}
use Rattle.pdb_tpi.proofs.primitives.push_primitives.Given as goal

abbrev pub invariant-loop-number : goal.invariant-loop-number
invariant-loop-number l =
    l.initial.items.items ++ primitives_in l.kinds l.mode
    ≡ l.items.items ++ primitives_in (drop l.number-index l.kinds) l.mode
