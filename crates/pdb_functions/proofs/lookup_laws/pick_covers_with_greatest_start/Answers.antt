use Rattle.pdb_functions.specs.Spans.{procedure_covers}
use Rattle.pdb_tables.proofs.PickLemmas.{pick_is_picked}
use Rattle.pdb_functions.proofs.lookup_laws.pick_covers_with_greatest_start.Goals as goal

pub returns : goal.returns
returns c = λ section_offset procedures. pick_is_picked (procedure_covers section_offset)
    (λ p. p.offset.offset) procedures
