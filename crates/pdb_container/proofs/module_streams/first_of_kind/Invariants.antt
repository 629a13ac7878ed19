-- The first of all subsections of the kind is the first of those that are left.
use Rattle.std.proofs.Common.{◌≡◌, drop}
use Rattle.pdb_container.specs.ModuleStreams.{first_of_kind}
use Rattle.pdb_container.proofs.module_streams.first_of_kind.Given as goal

abbrev pub invariant-loop-subsection : goal.invariant-loop-subsection
invariant-loop-subsection l =
    first_of_kind l.kind l.list ≡ first_of_kind l.kind (drop l.subsection-index l.list)
