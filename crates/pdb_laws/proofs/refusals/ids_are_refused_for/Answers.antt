use Rattle.pdb_type_texts.specs.Ids.{id_of_index}
use Rattle.pdb_type_texts.specs.PrintInputs.{print_inputs_of}
use Rattle.pdb_type_texts.proofs.DocumentLemmas.{document-unfolds}
use Rattle.pdb_type_texts.proofs.UnfoldingLemmas.{print_inputs-below}
use Rattle.pdb_laws.specs.PrintErrors.{IsPrintError}
use Rattle.pdb_laws.proofs.ReadLemmas.{print_inputs_are_good}
use Rattle.pdb_laws.proofs.RefusalLemmas.{print_errors, refused_for}
use Rattle.pdb_laws.proofs.refusals.ids_are_refused_for.Goals as goal

pub returns : goal.returns
returns c = λ link_inputs types ids pointer flags module_index index failed failure is.
    let w = print_inputs_of link_inputs types ids pointer flags module_index in
    let reads = print_inputs_are_good IsPrintError print_errors.reading link_inputs types ids pointer flags
    module_index in
    refused_for w reads (document-unfolds w (print_inputs-below link_inputs types ids pointer flags module_index)
    (id_of_index index)) tt failed failure is
