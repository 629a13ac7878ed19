-- One entry more.
use Rattle.pe_image.specs.DebugDirectory.{debug_entry}
use Rattle.pe_image.proofs.EntryLemmas.{one_entry_more}
use Rattle.pe_image.proofs.debug_directory.debug_entries_in.Goals as goal

pub loop-position-preserved : goal.loop-position-preserved
loop-position-preserved c =
    one_entry_more debug_entry 28 _ _ _ _ _ _ _ c.loop-position-test.true c.loop-position.invariant
    c.debug_entry.ensures
    c.in_ok-push.ensures.items
