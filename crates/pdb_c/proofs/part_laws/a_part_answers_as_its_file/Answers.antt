-- A part has the same answers as all of its file, so a context over it has them too.
use Rattle.std.proofs.Common.{ap, subst, sym}
use Rattle.pdb_records.specs.Records.{Records}
use Rattle.pdb_addr2line.specs.ContextInputs.{ContextInputs}
use Rattle.pdb_session.proofs.PartLemmas.{SameAnswers, named_as_all, named_function_as_all}
use Rattle.pdb_c.specs.declared.call_error.CallError.TheVariants.{AddressRefused}
use Rattle.pdb_c.specs.ReportTexts.{with_refusal}
use Rattle.pdb_c.proofs.PartLemmas.{same_as_file}
use Rattle.pdb_c.proofs.part_laws.a_part_answers_as_its_file.Goals as goal

pub returns : goal.returns
returns c = record {
  frames = λ file addresses flags part all state records address over_part read made flagged same.
      ap (with_refusal (λ error. AddressRefused)) (named_as_all state all.inputs address
      (subst (λ (inputs : ContextInputs Records). SameAnswers inputs all.inputs address) (sym same)
      (same_as_file file addresses flags part all records address over_part read made flagged)));
  functions = λ file addresses flags part all records address over_part read made flagged.
      named_function_as_all part.inputs all.inputs address
      (same_as_file file addresses flags part all records address over_part read made flagged);
}
