-- One entry more.
use Rattle.pe_image.specs.Image.{section_header}
use Rattle.pe_image.proofs.EntryLemmas.{one_entry_more}
use Rattle.pe_image.proofs.image.sections_in.Goals as goal

pub loop-position-preserved : goal.loop-position-preserved
loop-position-preserved c =
    one_entry_more section_header 40 _ _ _ _ _ _ _ c.loop-position-test.true c.loop-position.invariant
    c.section_header.ensures
    c.in_ok-push.ensures.items
