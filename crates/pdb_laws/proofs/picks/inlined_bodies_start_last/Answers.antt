use Rattle.std.proofs.Common.{arith}
use Rattle.pdb_inline.specs.InlineStacks.{depths}
use Rattle.pdb_laws.proofs.DepthLemmas.{picked_by_depth}
use Rattle.pdb_laws.proofs.picks.inlined_bodies_start_last.Goals as goal

pub returns : goal.returns
returns c = λ ranges x. picked_by_depth (depths ranges) ranges x 0 (omega arith)
