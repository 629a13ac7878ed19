-- The number after its leaf.
use Rattle.std.proofs.Common.{◌≤◌, arith}
use Rattle.pdb_tpi.proofs.NumberLemmas.{leaf_first}
use Rattle.pdb_tpi.proofs.numeric_leaves.take_variant.Goals as goal

pub returns : goal.returns
returns c =
    let wide : 0x8000 ≤ c.in_ok-leaf.leaf = omega arith in
    rw (leaf_first c.args.rest.now c.u16.new.self c.in_ok-leaf.leaf c.in_ok-leaf.ensures.there
    c.in_ok-leaf.ensures.answer c.in_ok-leaf.ensures.state wide) c.take_wide.ensures
