-- One number more.
use Rattle.std.proofs.Common.{◌∙◌, ◌+◌, ◌-◌, ◌*◌, arith}
use Rattle.pdb_msf.proofs.ExcerptLemmas.{stepped}
use Rattle.pdb_msf.proofs.HeldLemmas.{same_behind, same_front}
use Rattle.pdb_msf.proofs.stream_subset.write_numbers.Goals as goal

pub loop-position-preserved : goal.loop-position-preserved
loop-position-preserved c = record {
  answer = stepped _ _ _ _ _ _ (omega arith) (omega arith) c.requires.small c.loop-position.invariant.answer
      c.write_number.ensures.answer;
  before = same_front c.args.place (c.args.place + 4 * (c.loop-position.position - 1)) _ _ (omega arith)
      c.write_number.ensures.before ∙ c.loop-position.invariant.before;
  behind = same_behind (c.args.place + 4 * (c.loop-position.position - 1)) (c.args.place + 4 * c.args.count) _ _ _
      (omega arith) c.write_number.ensures.answer ∙ c.loop-position.invariant.behind;
}
