use Rattle.std.proofs.Common.{arith}
use Rattle.pdb_types.proofs.AscendingLemmas.{ascends_none, got_there}
use Rattle.pdb_types.proofs.ascending.ascending_length.Goals as goal

pub loop-ascending-init : goal.loop-ascending-init
loop-ascending-init g c = record { within = omega arith; ascends = ascends_none g.T.Numbered.number_of }

pub loop-ascending-smaller : goal.loop-ascending-smaller
loop-ascending-smaller g c =
    let there = got_there g.T.Numbered.number_of c.args.entries.now c.loop-ascending.ascending _
    c.in-Some.ensures.entry in
    omega (arith, there.0)

pub loop-ascending-preserved : goal.loop-ascending-preserved
loop-ascending-preserved g c =
    let there = got_there g.T.Numbered.number_of c.args.entries.now c.loop-ascending.ascending _
    c.in-Some.ensures.entry in
    record { within = omega (arith, there.0); ascends = c.in-Some.ensures.ascends }
