-- One number more.
use Rattle.pdb_msf.proofs.NumberLemmas.{copied_one}
use Rattle.pdb_msf.proofs.number_lists.copy_numbers.Goals as goal

pub loop-position-preserved : goal.loop-position-preserved
loop-position-preserved c =
    copied_one _ _ _ _ _ _ _ c.loop-position-test.true c.loop-position.invariant c.number_at.ensures
    c.in_ok-push.ensures.items
