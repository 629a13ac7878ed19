-- One line more, and all of them.
use Rattle.std.proofs.Common.{◌∙◌, arith, subst}
use Rattle.std.specs.List.{All}
use Rattle.std.proofs.lemmas.Grind.{common_steps}
use Rattle.std.proofs.lemmas.List.{take_all}
use Rattle.std.proofs.lemmas.List.Elements.{All-more}
use Rattle.pdb_breakpad.specs.WrittenRecords.{FitsPlace, FitsSpan}
use Rattle.pdb_breakpad.proofs.function_records.push_lines.Goals as goal

pub loop-span-preserved : goal.loop-span-preserved
loop-span-preserved c = record {
  written = grind (arith, common_steps);
  fit = All-more (FitsSpan FitsPlace) c.spans-span-items.result.now c.loop-span.span-index _ c.loop-span-test.true
      c.loop-span.invariant.fit c.in_ok-push_line.ensures.fits;
}

pub returns-clause-fits : goal.returns-clause-fits
returns-clause-fits c =
    subst (All (FitsSpan FitsPlace))
    (take_all c.loop-span.span-index c.spans-span-items.result.now c.loop-span-test.false
    ∙ c.spans-span-items.ensures.answer) c.loop-span.invariant.fit
