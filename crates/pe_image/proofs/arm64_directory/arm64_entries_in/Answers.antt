-- One entry more.
use Rattle.pe_image.specs.Arm64Directory.{arm64_entry}
use Rattle.pe_image.proofs.EntryLemmas.{one_entry_more}
use Rattle.pe_image.proofs.arm64_directory.arm64_entries_in.Goals as goal

pub loop-position-preserved : goal.loop-position-preserved
loop-position-preserved c =
    one_entry_more arm64_entry 8 _ _ _ _ _ _ _ c.loop-position-test.true c.loop-position.invariant
    c.arm64_entry.ensures
    c.in_ok-push.ensures.items
