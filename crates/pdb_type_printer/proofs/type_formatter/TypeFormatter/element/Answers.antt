use Rattle.std.proofs.lemmas.Result.{on_ok_weaker}
use Rattle.pdb_type_texts.specs.PrintInputs.{formatter_inputs}
use Rattle.pdb_type_printer.proofs.TurnLemmas.{advances_stands}
use Rattle.pdb_type_printer.proofs.type_formatter.TypeFormatter.element.Goals as goal

pub returns-in-Array-clause-advances : goal.returns-in-Array-clause-advances
returns-in-Array-clause-advances g c = on_ok_weaker c.further_level.result (λ ok.
    let w = formatter_inputs g.P.ModuleProvider.info c.args.self.now.type_inputs c.args.module_index in
    rw c.in-Array.is (advances_stands w 0 _ c.args.progress.now _
    (ok w) c.args.self.now.failed))
    c.further_level.ensures
