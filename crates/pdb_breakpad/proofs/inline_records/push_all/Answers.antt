-- One record more, and all of them.
use Rattle.std.proofs.Common.{arith, subst}
use Rattle.std.specs.List.{All}
use Rattle.std.proofs.lemmas.Grind.{common_steps}
use Rattle.std.proofs.lemmas.List.{take_all}
use Rattle.std.proofs.lemmas.List.Elements.{All-more}
use Rattle.pdb_breakpad.specs.WrittenRecords.{FitsCall, FitsSpan}
use Rattle.pdb_breakpad.proofs.inline_records.push_all.Goals as goal

pub loop-inline_record-preserved : goal.loop-inline_record-preserved
loop-inline_record-preserved c = record {
  written = grind (arith, common_steps);
  fit = All-more (λ inlined. FitsSpan FitsCall inlined.span) c.args.inlines.now c.loop-inline_record.inline_record-index
      _ c.loop-inline_record-test.true c.loop-inline_record.invariant.fit c.in_ok-push_record.ensures.fits;
}

pub returns-clause-fits : goal.returns-clause-fits
returns-clause-fits c =
    subst (All (λ inlined. FitsSpan FitsCall inlined.span))
    (take_all c.loop-inline_record.inline_record-index c.args.inlines.now c.loop-inline_record-test.false)
    c.loop-inline_record.invariant.fit
