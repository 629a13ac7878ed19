-- The primitives are those that were listed and those in the modes that are left.
use Rattle.std.proofs.Common.{◌≡◌, ◌++◌, ◌-◌}
use Rattle.std.specs.List.{flat_map, range_with_len}
use Rattle.pdb_tpi.specs.Primitives.{primitive_kinds, primitives, primitives_in}
use Rattle.pdb_tpi.proofs.primitives.primitive_types.Given as goal

abbrev pub invariant-loop-mode : goal.invariant-loop-mode
invariant-loop-mode l =
    primitives ≡ l.items.items ++ flat_map (primitives_in primitive_kinds) (range_with_len l.mode (8 - l.mode))
