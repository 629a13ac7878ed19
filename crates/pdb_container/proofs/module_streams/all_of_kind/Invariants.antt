-- The contents of the kind are those that were taken and those that are left.
use Rattle.std.proofs.Common.{◌≡◌, ◌++◌, drop, map}
use Rattle.pdb_container.specs.ModuleStreams.{all_of_kind}
use Rattle.pdb_container.proofs.module_streams.all_of_kind.Given as goal

abbrev pub invariant-loop-subsection : goal.invariant-loop-subsection
invariant-loop-subsection l = all_of_kind l.kind l.list
    ≡ map (λ content. content.now) l.all.items ++ all_of_kind l.kind (drop l.subsection-index l.list)
