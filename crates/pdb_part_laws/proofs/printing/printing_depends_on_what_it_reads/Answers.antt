use Rattle.pdb_part_laws.proofs.SameDocuments.{documents_agree, signatures_agree, ids_agree}
use Rattle.pdb_part_laws.proofs.printing.printing_depends_on_what_it_reads.Goals as goal

pub returns : goal.returns
returns c = record { documents = documents_agree; signatures = signatures_agree; ids = ids_agree }
