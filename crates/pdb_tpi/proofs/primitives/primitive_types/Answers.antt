-- One mode more.
use Rattle.std.proofs.Common.{◌++◌, ap, sym}
use Rattle.std.specs.List.{flat_map, range_with_len}
use Rattle.pdb_tpi.proofs.PrimitiveLemmas.{one_mode_more}
use Rattle.pdb_tpi.proofs.primitives.primitive_types.Goals as goal
use Rattle.pdb_tpi.specs.Primitives.{primitive_kinds, primitives, primitives_in}

pub loop-mode-init : goal.loop-mode-init
unfolding primitives
loop-mode-init c =
    ap (λ xs. xs ++ flat_map (primitives_in primitive_kinds) (range_with_len 0 8)) (sym c.new-items.ensures.items)

pub loop-mode-preserved : goal.loop-mode-preserved
unfolding primitive_kinds
loop-mode-preserved c =
    one_mode_more (primitives_in primitive_kinds) 8 c.loop-mode.mode primitives c.loop-mode.items.items
    c.push_primitives.new.items.items c.loop-mode-test.true c.loop-mode.invariant c.in_ok-push_primitives.ensures
