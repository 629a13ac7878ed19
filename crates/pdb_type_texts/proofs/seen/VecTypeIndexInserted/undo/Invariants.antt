use Rattle.std.proofs.Common.{◌≡◌, ℕ, drop}
use Rattle.pdb_type_texts.specs.Seen.{base}
use Rattle.pdb_type_texts.proofs.seen.VecTypeIndexInserted.undo.Given as goal

-- without what is left, the set is what all of it leaves
abbrev pub invariant-loop-index : goal.invariant-loop-index
invariant-loop-index l = (q : ℕ) → base l.set (drop l.index-index l.index-items) q ≡ base l.fn.set l.index-items q
