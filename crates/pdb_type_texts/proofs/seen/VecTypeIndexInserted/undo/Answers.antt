use Rattle.std.proofs.Common.{◌∙◌, refl}
use Rattle.pdb_type_texts.proofs.SeenLemmas.{base-removed}
use Rattle.pdb_type_texts.proofs.seen.VecTypeIndexInserted.undo.Goals as goal

pub loop-index-preserved : goal.loop-index-preserved
loop-index-preserved c = λ q. base-removed c.loop-index.set c.remove.new.self c.deref-index-items.result.now
    c.loop-index.index-index _ (record { 0 = 0 }) c.loop-index-test.true refl c.remove.ensures.updates q
    ∙ c.loop-index.invariant q
