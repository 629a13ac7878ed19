-- The bytes that were taken are a part of those that were left.
use Rattle.std.proofs.Common.{◌∙◌, ap, sym, ℕ, List, Bor}
use Rattle.pdb_symbolication.proofs.WriteLemmas.{goes_as, goes_count, goes_kept}
use Rattle.pdb_symbolication.proofs.whole_writes.write_whole.Goals as goal
use Rattle.pdb_symbolication.proofs.whole_writes.write_whole.Goals.{in-Ok, in-Err}

pub loop-preserved : goal.loop-preserved
loop-preserved g c = elim c.match-write.branch [
  | in-Ok w ↦ goes_as (sym (ap (λ (bytes : Bor (List ℕ)). bytes.now) w.rest-is ∙ w.after-rest.ensures))
      (goes_count (g.W.Write.contents c.write.new.self) w.in-Ok.count c.loop.invariant w.in-Ok.ensures.bytes)
  | in-Err w ↦ goes_as (sym (ap (λ (bytes : Bor (List ℕ)). bytes.now) w.rest-is))
      (goes_kept (g.W.Write.contents c.write.new.self) c.loop.invariant w.in-Err.ensures.bytes)
]
