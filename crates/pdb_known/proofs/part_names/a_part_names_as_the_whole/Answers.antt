use Rattle.pdb_known.proofs.NameLemmas.{procedure_name_same, id_name_same}
use Rattle.pdb_known.proofs.part_names.a_part_names_as_the_whole.Goals as goal

pub returns : goal.returns
returns c = record {
  procedures = λ at info part whole m same closed. procedure_name_same at info part whole m same closed;
  inlined = λ at info part whole m same closed. id_name_same at info part whole m same closed;
}
