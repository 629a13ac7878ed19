-- The record at a place, where the window had it, and where it was read.
use Rattle.std.proofs.Common.{◌∙◌, ◌≡◌, ◌+◌, ◌≤◌, ℕ, List, length, ap, arith, subst}
use Rattle.pdb_msf.specs.StreamBlocks.{said_in}
use Rattle.pdb_tpi.proofs.RecordWindowLemmas.{read_again, shows_read, whole_shown}
use Rattle.pdb_tpi.proofs.SaidLemmas.{of_said, where_said}
use Rattle.pdb_tpi.specs.RecordWindows.{records_in}
use Rattle.pdb_tpi.specs.TypeRecords.{record_len}
use Rattle.pdb_tpi.proofs.record_window.RecordWindow.show.Goals as goal

pub returns-then-has_whole-clause-same : goal.returns-then-has_whole-clause-same
returns-then-has_whole-clause-same g c =
    where_said (said_in (g.S.Source.bytes c.args.source.now) c.args.records.now.blocks) _ (λ stream said.
    whole_shown _ c.args.self.now c.args.place (c.has_whole.ensures.there c.if-has_whole.true)
    (c.has_whole.ensures.whole c.if-has_whole.true))

pub returns-in_ok-load-2-clause-same : goal.returns-in_ok-load-2-clause-same
returns-in_ok-load-2-clause-same g c =
    where_said (said_in (g.S.Source.bytes c.args.source.now) c.args.records.now.blocks) _ (λ stream said shows.
    read_again (records_in c.args.records.now stream) c.load.new.self c.load-then-not-has_whole.new.self
    c.args.place c.max.result c.record_size-size.result (omega arith) c.record_size-size.ensures.least
    (subst (λ (xs : List ℕ). 2 ≤ length xs → c.record_size-size.result ≡ 2 + record_len xs) c.deref.ensures.value
    c.record_size-size.ensures.answer)
    (of_said _ _ stream said c.in_ok-load.ensures.answer) c.load-then-not-has_whole.ensures.place
    (of_said _ _ stream (ap (λ k. said_in k c.args.records.now.blocks) c.load.ensures.inputs ∙ said)
    c.in_ok-load-2.ensures.answer))

pub returns-else-not-has_whole-clause-shows : goal.returns-else-not-has_whole-clause-shows
returns-else-not-has_whole-clause-shows g c =
    where_said (said_in (g.S.Source.bytes c.args.source.now) c.args.records.now.blocks) _ (λ stream said shows.
    shows_read _ c.load.new.self c.args.place c.max.result c.load.ensures.place
    (of_said _ _ stream said c.in_ok-load.ensures.answer))

pub returns-else-not-has_whole-clause-same : goal.returns-else-not-has_whole-clause-same
returns-else-not-has_whole-clause-same g c =
    where_said (said_in (g.S.Source.bytes c.args.source.now) c.args.records.now.blocks) _ (λ stream said shows.
    whole_shown _ c.load.new.self c.args.place (c.has_whole-2.ensures.there c.if-not-has_whole.false)
    (c.has_whole-2.ensures.whole c.if-not-has_whole.false)
    (shows_read _ c.load.new.self c.args.place c.max.result c.load.ensures.place
    (of_said _ _ stream said c.in_ok-load.ensures.answer)))
