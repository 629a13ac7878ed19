use Rattle.std.proofs.Common.{◌∙◌, ap}
use Rattle.std.specs.Prelude.{◌==◌}
use Rattle.pdb_functions.specs.FunctionMatches.{where_passes}
use Rattle.pdb_functions.proofs.NeighbourLemmas.{over_from_last}
use Rattle.pdb_functions.proofs.global_function_table.GlobalFunctionTable.function_over.Goals as goal

pub returns-clause-answer : goal.returns-clause-answer
returns-clause-answer c =
    c.in_section.ensures ∙ ap (where_passes (λ f. f.start.section == c.args.section_offset.section)) c.neighbours-next_to.ensures.up_to
    ∙ over_from_last c.args.section_offset c.args.self.now c.neighbours-next_to.ensures.ascend
