use Rattle.pdb_type_texts.specs.PrintInputs.{print_inputs_of}
use Rattle.pdb_type_texts.specs.Ids.{id_of_index}
use Rattle.pdb_type_texts.proofs.DocumentLemmas.{document-unfolds}
use Rattle.pdb_type_texts.proofs.UnfoldingLemmas.{print_inputs-below}
use Rattle.pdb_laws.proofs.ReadLemmas.{print_inputs_are_good}
use Rattle.pdb_laws.proofs.CircleLemmas.{IsOther, others, circle_met, circle_refused}
use Rattle.pdb_laws.proofs.circles.ids_are_circular_exactly_where_an_index_repeats.Goals as goal

pub returns : goal.returns
returns c = record {
  refused = λ link_inputs types ids pointer flags module_index index circle meets failed.
      let w = print_inputs_of link_inputs types ids pointer flags module_index in
      circle_refused (document-unfolds w (print_inputs-below link_inputs types ids pointer flags module_index)
      (id_of_index index)) meets failed;
  only = λ link_inputs types ids pointer flags module_index index circle failed is.
      let w = print_inputs_of link_inputs types ids pointer flags module_index in
      circle_met w (print_inputs_are_good IsOther others.reading link_inputs types ids pointer flags module_index)
      (document-unfolds w (print_inputs-below link_inputs types ids pointer flags module_index) (id_of_index index))
      (tt) failed circle is;
}
