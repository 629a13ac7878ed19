use Rattle.std.proofs.Common.{◌≡◌, drop, cond}
use Rattle.pdb_types.specs.ForwardReferences.{first_definition, size_behind}
use Rattle.pdb_types.proofs.forward_references.size_behind.Given as goal

-- what is left gives the size that all give, behind the entry once it was reached
abbrev pub invariant-loop-item : goal.invariant-loop-item
invariant-loop-item l = cond l.reached (first_definition l.name (drop l.item-index l.items))
    (size_behind l.resolved.0 l.name (drop l.item-index l.items)) ≡ size_behind l.resolved.0 l.name l.items
