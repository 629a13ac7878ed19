use Rattle.pdb_tables.proofs.EdgeLemmas.{length_by_edges}
use Rattle.pdb_tables.proofs.segments.Segments.from_overlapping.Goals as goal

pub returns-clause-bound : goal.returns-clause-bound
returns-clause-bound g c = length_by_edges _ _ c.in_ok-segments.ensures.ordered c.in_ok-segments.ensures.edges
