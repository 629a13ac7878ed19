use Rattle.std.proofs.lemmas.Result.{on_ok_weaker}
use Rattle.pdb_type_texts.proofs.CutLemmas.{may_be_cut-written, may_be_cut-behind}
use Rattle.pdb_type_texts.proofs.progress.end_buffer.Goals as goal

pub returns-clause-cut : goal.returns-clause-cut
returns-clause-cut c = on_ok_weaker c.write_attributes.result (λ written. λ marks cut.
    may_be_cut-written c.args.text.now c.write_attributes.new.text _ written marks
    (may_be_cut-behind c.args.text.now c.args.mark marks c.requires cut)) c.write_attributes.ensures
