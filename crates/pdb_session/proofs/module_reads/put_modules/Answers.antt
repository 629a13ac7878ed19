-- One module more.
use Rattle.std.proofs.Common.{◌∙◌, [], ◌∷◌}
use Rattle.std.proofs.lemmas.List.Elements.{All-head}
use Rattle.pdb_session.proofs.FrontStreamLemmas.{all_before, all_behind}
use Rattle.pdb_session.specs.FileParts.{HasRepairsOf, IsModuleOf}
use Rattle.pdb_session.proofs.module_reads.put_modules.Goals as goal

pub loop-one-preserved : goal.loop-one-preserved
loop-one-preserved c = record {
  modules = λ whole all was.
      c.put_module.ensures.modules whole
      (All-head (IsModuleOf whole) c.in-Some.one []
      (all_behind (IsModuleOf whole) c.loop-one.yielded (c.in-Some.one ∷ []) all))
      (c.loop-one.invariant.modules whole
      (all_before (IsModuleOf whole) c.loop-one.yielded (c.in-Some.one ∷ []) all) was);
  untold = λ whole all position.
      c.put_module.ensures.untold whole
      (All-head (HasRepairsOf whole) c.in-Some.one []
      (all_behind (HasRepairsOf whole) c.loop-one.yielded (c.in-Some.one ∷ []) all)) position
      ∙ c.loop-one.invariant.untold whole
      (all_before (HasRepairsOf whole) c.loop-one.yielded (c.in-Some.one ∷ []) all) position;
  count = c.put_module.ensures.count ∙ c.loop-one.invariant.count;
}
