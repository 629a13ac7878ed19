use Rattle.std.proofs.Common.{◌≡◌, drop}
use Rattle.pdb_types.specs.Sizes.{last_of}
use Rattle.pdb_types.proofs.sizes.array_size.Given as goal

-- the last of the size so far and what is left is the last of all
abbrev pub invariant-loop-dimension : goal.invariant-loop-dimension
invariant-loop-dimension l = last_of l.size (drop l.dimension-index l.dimension-items)
    ≡ last_of l.array.first l.array.rest
