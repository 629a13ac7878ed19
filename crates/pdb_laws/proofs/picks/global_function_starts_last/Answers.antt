use Rattle.pdb_tables.proofs.PickLemmas.{pick_is_picked}
use Rattle.pdb_functions.specs.Spans.{global_function_covers}
use Rattle.pdb_laws.proofs.picks.global_function_starts_last.Goals as goal

pub returns : goal.returns
returns c = λ section_offset globals. pick_is_picked (global_function_covers section_offset)
    (λ f. f.start.offset) globals
