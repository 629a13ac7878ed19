use Rattle.pdb_inline.proofs.DepthTableLemmas.{pushed_at}
use Rattle.pdb_inline.proofs.depth_tables.push_at.Goals as goal

pub returns-clause-state : goal.returns-clause-state
returns-clause-state c = λ other.
    pushed_at c.args.all.now.items c.args.depth c.index_mut.result.now c.push.new.self c.args.segment other c.requires
    c.index_mut.ensures.value c.in_ok-push.ensures.items
