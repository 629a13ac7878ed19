use Rattle.pdb_type_texts.specs.Ids.{id_of_index}
use Rattle.pdb_type_texts.specs.PrintInputs.{formatter_inputs}
use Rattle.pdb_type_texts.proofs.DocumentLemmas.{document-runs}
use Rattle.pdb_type_printer.proofs.LoopLemmas.{begins_task}
use Rattle.pdb_type_texts.proofs.UnfoldingLemmas.{formatter-below}
use Rattle.pdb_type_printer.proofs.type_formatter.TypeFormatter.print_id.Goals as goal

pub returns-clause-answer : goal.returns-clause-answer
returns-clause-answer g c =
    let w = formatter_inputs g.P.ModuleProvider.info c.args.self.now.type_inputs c.args.module_index in
    let runs = begins_task w _ _ _ c.args.self.now.failed _ c.in_ok-progress.ensures c.in_ok-push.ensures
    c.in_ok-print.ensures.ends in
    let is = document-runs w (formatter-below g.P.ModuleProvider.info c.args.self.now.type_inputs c.args.module_index)
    (id_of_index c.args.index.0) c.args.self.now.failed _ (rw c.new-2.ensures.empty at runs) in
    rw (c.into_printed.ensures.text, c.into_printed.ensures.failure) is
