use Rattle.std.proofs.lemmas.Result.{on_ok_weaker}
use Rattle.pdb_type_texts.specs.PrintInputs.{formatter_inputs}
use Rattle.pdb_type_printer.proofs.TurnLemmas.{index_noted}
use Rattle.pdb_type_printer.proofs.ReadLemmas.{read_error-is, read_error-broken}
use Rattle.pdb_type_printer.proofs.LaterLemmas.{later-adds}
use Rattle.pdb_type_printer.proofs.type_formatter.TypeFormatter.index.Goals as goal

pub returns-in-Ok-clause-advances : goal.returns-in-Ok-clause-advances
returns-in-Ok-clause-advances g c = on_ok_weaker c.index_read.result (λ ok.
    let w = formatter_inputs g.P.ModuleProvider.info c.args.self.now.type_inputs c.args.module_index in
    let read = c.in-Ok.ensures.answer in
    rw c.in-Ok.ensures.unchanged (ok w read c.args.self.now.failed))
    c.index_read.ensures

pub returns-in-Err-clause-advances : goal.returns-in-Err-clause-advances
returns-in-Err-clause-advances g c = on_ok_weaker c.note.result (λ noted.
    let w = formatter_inputs g.P.ModuleProvider.info c.args.self.now.type_inputs c.args.module_index in
    let read_error = read_error-is (w.read c.args.index.0) c.in-Err.read_error noted.read_error_view
    c.in-Err.ensures.answer noted.known in
    let ran = rw c.in-Err.ensures.unchanged at noted.ran in
    index_noted w c.args.index.0 noted.read_error_view c.args.progress.now _ c.args.self.now.failed _ read_error
    c.requires.no_failure noted.steps ran)
    c.note.ensures.noted

pub returns-in-Err-clause-monotone : goal.returns-in-Err-clause-monotone
returns-in-Err-clause-monotone g c =
    let w = formatter_inputs g.P.ModuleProvider.info c.args.self.now.type_inputs c.args.module_index in
    later-adds c.in-Err.ensures.unchanged c.note.ensures.type_inputs
    (c.note.ensures.broken w (read_error-broken w c.args.index.0 c.in-Err.read_error c.in-Err.ensures.answer))
