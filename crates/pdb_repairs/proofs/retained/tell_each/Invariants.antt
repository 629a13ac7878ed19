use Rattle.std.proofs.Common.{◌≡◌, ◌++◌, drop, map}
use Rattle.pdb_repairs.specs.declared.repairs.Repair.TheVariants.{ModuleContributions}
use Rattle.pdb_repairs.proofs.retained.tell_each.Given as goal

-- what was told so far, and what is told of those left, is told of all
abbrev pub invariant-loop-one : goal.invariant-loop-one
invariant-loop-one l =
    l.repairs.items ++ map ModuleContributions (map (λ one. one.module_index) (drop l.one-index l.left_out))
    ≡ l.fn.repairs.items ++ map ModuleContributions (map (λ one. one.module_index) l.left_out)
