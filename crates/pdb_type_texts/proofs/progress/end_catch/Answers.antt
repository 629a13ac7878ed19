use Rattle.pdb_type_texts.proofs.CutLemmas.{may_be_cut-written}
use Rattle.pdb_type_texts.proofs.progress.end_catch.Goals as goal

pub returns-in_ok-write_missing-clause-cut : goal.returns-in_ok-write_missing-clause-cut
returns-in_ok-write_missing-clause-cut c =
    λ marks cut. may_be_cut-written c.args.text.now c.write_missing.new.text _ c.in_ok-write_missing.ensures marks cut
