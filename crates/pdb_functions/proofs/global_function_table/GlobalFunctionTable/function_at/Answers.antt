use Rattle.std.proofs.Common.{◌∙◌, ap}
use Rattle.pdb_records.specs.Addresses.{is_same_section_offset}
use Rattle.pdb_functions.specs.FunctionMatches.{where_passes}
use Rattle.pdb_functions.proofs.NeighbourLemmas.{at_from_last}
use Rattle.pdb_functions.proofs.global_function_table.GlobalFunctionTable.function_at.Goals as goal

pub returns-clause-answer : goal.returns-clause-answer
returns-clause-answer c =
    c.starting_at.ensures ∙ ap (where_passes (λ f. is_same_section_offset f.start c.args.start)) c.neighbours-next_to.ensures.up_to
    ∙ at_from_last c.args.start c.args.self.now c.neighbours-next_to.ensures.ascend
