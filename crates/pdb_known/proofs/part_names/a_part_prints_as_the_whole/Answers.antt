use Rattle.pdb_records.specs.Records.{Records}
use Rattle.pdb_known.proofs.EntryLemmas.{inputs_agree, inputs_closed}
use Rattle.pdb_known.proofs.part_names.a_part_prints_as_the_whole.Goals as goal

pub returns : goal.returns
returns c = record { inputs = inputs_agree {P = Records}; closed = inputs_closed {P = Records} }
