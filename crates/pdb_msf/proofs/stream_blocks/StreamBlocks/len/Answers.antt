-- The length of a stream that the source says.
use Rattle.pdb_msf.proofs.RangeLemmas.{said_length}
use Rattle.pdb_msf.proofs.stream_blocks.StreamBlocks.len.Goals as goal

pub returns-clause-said : goal.returns-clause-said
returns-clause-said c = λ known.
    rw (← c.self.view_is) (said_length known _ c.self.invariant.inside c.self.invariant.enough)
