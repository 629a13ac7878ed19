use Rattle.pdb_functions.specs.GlobalFunctions.{listed_functions}
use Rattle.pdb_tables.proofs.KeyedLemmas.{firsts_ascend}
use Rattle.pdb_functions.proofs.SectionOffsetLemmas.{section_offset_cmp_total, first_at_of_each_start}
use Rattle.pdb_functions.proofs.lookup_laws.first_global_function_of_each_start_is_kept.Goals as goal

pub returns : goal.returns
returns c = record {
  ascend = λ sections symbols debug. firsts_ascend section_offset_cmp_total (λ f. f.start) (listed_functions sections symbols debug);
  first = λ sections symbols debug section_offset. first_at_of_each_start (λ f. f.start) section_offset
      (listed_functions sections symbols debug);
}
