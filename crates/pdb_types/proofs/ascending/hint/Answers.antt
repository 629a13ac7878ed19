use Rattle.std.proofs.Common.{arith}
use Rattle.std.proofs.lemmas.Grind.{common_steps}
use Rattle.pdb_types.proofs.AscendingLemmas.{first_at}
use Rattle.pdb_types.proofs.ascending.hint.Goals as goal

pub returns-then-number : goal.returns-then-number
returns-then-number g c =
    first_at g.T.Numbered.number_of _ _ _ _ c.requires (grind (arith, common_steps)) c.index-entries-position.is
    (grind (arith, common_steps, c.number-2.ensures))
