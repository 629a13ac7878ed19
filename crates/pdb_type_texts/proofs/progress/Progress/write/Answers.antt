use Rattle.pdb_type_texts.proofs.CutLemmas.{may_be_cut-written}
use Rattle.pdb_type_texts.proofs.progress.Progress.write.Goals as goal

pub invariant_of-self : goal.invariant_of-self
invariant_of-self c = record {
  opened = c.self.invariant.opened;
  outer = c.self.invariant.outer;
  marks = may_be_cut-written c.self.inside.text c.write.new.text _ c.in-Ok.ensures _ c.self.invariant.marks;
}
