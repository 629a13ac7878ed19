-- One entry more.
use Rattle.pe_image.specs.ExceptionDirectory.{function_entry}
use Rattle.pe_image.proofs.EntryLemmas.{one_entry_more}
use Rattle.pe_image.proofs.exception_directory.entries_in.Goals as goal

pub loop-position-preserved : goal.loop-position-preserved
loop-position-preserved c =
    one_entry_more function_entry 12 _ _ _ _ _ _ _ c.loop-position-test.true c.loop-position.invariant
    c.function_entry_at.ensures
    c.in_ok-push.ensures.items
