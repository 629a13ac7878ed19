use Rattle.std.proofs.Common.{◌≡◌, ◌++◌, drop}
use Rattle.pdb_tables.specs.Segments.{IsOrderedFrom}
use Rattle.pdb_tables.specs.Painting.{overlaid}
use Rattle.pdb_tables.proofs.painting.overlaid.Given as goal

-- the segments so far, and those that what is left of both lists makes, are the answer
abbrev pub invariant-loop-top : goal.invariant-loop-top
invariant-loop-top g l = record {
  all : l.all.items ++ overlaid l.from (drop l.top-index l.tops) l.rest ≡ overlaid 0 l.tops l.under;
  tops : IsOrderedFrom l.from (drop l.top-index l.tops);
  rest : IsOrderedFrom 0 l.rest;
}
