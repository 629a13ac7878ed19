use Rattle.pdb_functions.specs.Procedures.{procedures_from}
use Rattle.std.specs.Prelude.{None}
use Rattle.pdb_tables.proofs.KeyedLemmas.{firsts_ascend}
use Rattle.pdb_functions.proofs.SectionOffsetLemmas.{section_offset_cmp_total, first_at_of_each_start}
use Rattle.pdb_functions.proofs.ProcedureLemmas.{behind_last_of_all, none_with_fault}
use Rattle.pdb_functions.proofs.lookup_laws.first_procedure_of_each_start_is_kept.Goals as goal

pub returns : goal.returns
returns c = record {
  ascend = λ symbols. firsts_ascend section_offset_cmp_total (λ p. p.offset) (procedures_from 0 None symbols);
  first = λ symbols section_offset. first_at_of_each_start (λ p. p.offset) section_offset
      (procedures_from 0 None symbols);
  behind = behind_last_of_all;
  fault = none_with_fault;
}
