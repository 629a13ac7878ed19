use Rattle.std.proofs.Common.{ap, ◌∙◌}
use Rattle.pdb_tables.proofs.KeyedLemmas.{firsts_ascend, map-first_of_each_key}
use Rattle.pdb_functions.specs.Starts.{section_offset_cmp, first_of_each_start}
use Rattle.pdb_functions.specs.Procedures.{module_procedure}
use Rattle.pdb_functions.proofs.SectionOffsetLemmas.{section_offset_cmp_total}
use Rattle.pdb_functions.proofs.procedures.compute_procedures.Goals as goal

pub returns-clause-answer : goal.returns-clause-answer
returns-clause-answer c = rw c.in_ok-counted.ensures
    (map-first_of_each_key module_procedure section_offset_cmp (λ p. p.offset) c.in_ok-procedures.procedures.items
    ∙ ap (first_of_each_start (λ p. p.offset)) c.in_ok-procedures.ensures)

pub returns-clause-ascend : goal.returns-clause-ascend
returns-clause-ascend c = rw c.in_ok-counted.ensures
    (firsts_ascend section_offset_cmp_total (λ p. p.offset) c.in_ok-procedures.procedures.items)
