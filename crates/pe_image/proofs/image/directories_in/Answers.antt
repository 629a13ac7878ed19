-- One entry more.
use Rattle.pe_image.specs.Image.{data_directory}
use Rattle.pe_image.proofs.EntryLemmas.{one_entry_more}
use Rattle.pe_image.proofs.image.directories_in.Goals as goal

pub loop-position-preserved : goal.loop-position-preserved
loop-position-preserved c =
    one_entry_more data_directory 8 _ _ _ _ _ _ _ c.loop-position-test.true c.loop-position.invariant
    c.data_directory.ensures
    c.in_ok-push.ensures.items
