-- The calls from outside to inside, by those of each level.
use Rattle.pdb_breakpad.proofs.InlineRecordLemmas.{calls_at_all_levels, calls_of_levels, same_calls}
use Rattle.pdb_breakpad.proofs.inline_records.InlineRecords.add.Goals as goal

pub returns-clause-answer : goal.returns-clause-answer
returns-clause-answer c = λ a from to.
    calls_of_levels a c.loop-level.self c.args.calls.now
    (calls_at_all_levels a c.args.piece.first c.loop-level.level c.args.self.now c.loop-level.self c.args.calls.now
    from c.loop-level-test.false (λ level. c.loop-level.invariant.1 a level from to) c.loop-level.invariant.2
    c.requires.order)

pub returns-clause-unchanged : goal.returns-clause-unchanged
returns-clause-unchanged c = λ a below.
    same_calls a c.loop-level.self c.args.self.now (λ level. c.loop-level.invariant.3 a level below)
