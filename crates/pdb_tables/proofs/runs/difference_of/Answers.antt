use Rattle.std.proofs.Common.{◌≡◌, arith}
use Rattle.std.proofs.lemmas.Grind.{common_steps}
use Rattle.pdb_tables.specs.Runs.{difference}
use Rattle.pdb_tables.proofs.DifferenceLemmas.{IsRunsFrom-difference, has-difference}
use Rattle.pdb_tables.proofs.runs.difference_of.Goals as goal

pub returns-clause-ordered : goal.returns-clause-ordered
returns-clause-ordered c =
    let all : c.loop-lo.left.items ≡ difference c.args.runs.now c.args.others.now = grind (arith, common_steps) in
    rw all (IsRunsFrom-difference 0 0 _ _ c.requires.runs c.requires.others)

pub returns-clause-answer : goal.returns-clause-answer
returns-clause-answer c =
    let all : c.loop-lo.left.items ≡ difference c.args.runs.now c.args.others.now = grind (arith, common_steps) in
    rw all (λ x. has-difference 0 0 x _ _ c.requires.runs c.requires.others)
