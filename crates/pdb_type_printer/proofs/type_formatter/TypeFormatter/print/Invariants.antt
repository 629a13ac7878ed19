use Rattle.pdb_type_texts.specs.Progress.{stage_run}
use Rattle.pdb_type_texts.specs.PrintInputs.{formatter_inputs}
use Rattle.pdb_type_texts.proofs.UnfoldingLemmas.{formatter-below}
use Rattle.pdb_type_printer.specs.Formatters.{IsLater}
use Rattle.pdb_type_printer.specs.PendingPlans.{Goes, plans}
use Rattle.pdb_type_printer.proofs.LoopLemmas.{left}
use Rattle.pdb_type_printer.proofs.type_formatter.TypeFormatter.print.Given as goal

-- what is still to be done comes to what was to be done at first
abbrev pub invariant-turns : goal.invariant-turns
invariant-turns g l =
    let info = g.P.ModuleProvider.info in
    let w = formatter_inputs info l.fn.self.type_inputs l.module_index in
    record {
      later : IsLater info l.module_index l.fn.self l.self;
      goes : Goes w 0 (plans w l.fn.progress.steps) (stage_run l.fn.progress l.fn.self.failed)
          (plans w l.progress.steps) (stage_run l.progress l.self.failed);
    }

abbrev pub decreases-turns : goal.decreases-turns
decreases-turns g l =
    let s = l.fn.self.type_inputs in
    let w = formatter_inputs g.P.ModuleProvider.info s l.module_index in
    left w (formatter-below g.P.ModuleProvider.info s l.module_index) (plans w l.progress.steps)
