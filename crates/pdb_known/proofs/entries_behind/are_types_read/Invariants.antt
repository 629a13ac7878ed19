-- All types were read exactly if those were that are left.
use Rattle.std.proofs.Common.{◌≡◌, drop}
use Rattle.pdb_known.specs.Known.{all_types, is_covered}
use Rattle.pdb_known.proofs.entries_behind.are_types_read.Given as goal

abbrev pub invariant-loop-index : goal.invariant-loop-index
invariant-loop-index l =
    all_types (is_covered l.types) l.indices ≡ all_types (is_covered l.types) (drop l.index-index l.indices)
