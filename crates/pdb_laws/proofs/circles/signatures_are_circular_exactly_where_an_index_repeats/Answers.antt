use Rattle.pdb_type_texts.specs.PrintInputs.{print_inputs_of}
use Rattle.pdb_type_texts.specs.Signatures.{signature}
use Rattle.pdb_type_texts.proofs.DocumentLemmas.{document-unfolds}
use Rattle.pdb_type_texts.proofs.UnfoldingLemmas.{print_inputs-below}
use Rattle.pdb_laws.proofs.ReadLemmas.{print_inputs_are_good}
use Rattle.pdb_laws.proofs.PlanLemmas.{good_signature}
use Rattle.pdb_laws.proofs.CircleLemmas.{IsOther, others, circle_met, circle_refused}
use Rattle.pdb_laws.proofs.circles.signatures_are_circular_exactly_where_an_index_repeats.Goals as goal

pub returns : goal.returns
returns c = record {
  refused = λ link_inputs types ids pointer flags module_index name index circle meets failed.
      let w = print_inputs_of link_inputs types ids pointer flags module_index in
      circle_refused (document-unfolds w (print_inputs-below link_inputs types ids pointer flags module_index)
      (signature w name index)) meets failed;
  only = λ link_inputs types ids pointer flags module_index name index circle failed is.
      let w = print_inputs_of link_inputs types ids pointer flags module_index in
      circle_met w (print_inputs_are_good IsOther others.reading link_inputs types ids pointer flags module_index)
      (document-unfolds w (print_inputs-below link_inputs types ids pointer flags module_index)
      (signature w name index)) (good_signature IsOther others w
      (print_inputs_are_good IsOther others.reading link_inputs types ids pointer flags module_index) name index)
      failed circle is;
}
