-- One entry more.
use Rattle.std.proofs.Common.{◌+◌, drop, subst, sym}
use Rattle.std.proofs.lemmas.List.{drop_more}
use Rattle.pe_unwind_arm64.specs.ProgramRecords.{AddsAll}
use Rattle.pe_unwind_arm64.proofs.program_records.add_entries.Goals as goal

pub loop-entry-preserved : goal.loop-entry-preserved
loop-entry-preserved c = λ written rest.
    c.loop-entry.invariant written
    (subst (λ list. AddsAll c.args.image.now c.loop-entry.reach list c.loop-entry.records written)
    (sym (drop_more c.args.entries.now c.loop-entry.entry-index (record { begin = 0; unwind = 0 }) c.loop-entry-test.true)) (
      c.add_entry.new.records,
      c.in_ok-add_entry.ensures,
      subst (λ reach. AddsAll c.args.image.now reach (drop (c.loop-entry.entry-index + 1) c.args.entries.now)
          c.add_entry.new.records written) c.reach_behind-reach.ensures.answer rest,
    ))
