use Rattle.std.proofs.Common.{ap}
use Rattle.pdb_type_texts.specs.Plans.{on_read}
use Rattle.pdb_type_texts.specs.PrintInputs.{formatter_inputs}
use Rattle.pdb_type_printer.proofs.TurnLemmas.{advances_refused, closing_advances}
use Rattle.pdb_type_printer.proofs.ReadLemmas.{read_error-is, read_error-broken}
use Rattle.pdb_type_printer.proofs.LaterLemmas.{later-adds}
use Rattle.pdb_type_printer.proofs.type_formatter.TypeFormatter.enter_alone.Goals as goal

pub returns-in_ok-open_alone-in-Ok-clause-entered : goal.returns-in_ok-open_alone-in-Ok-clause-entered
returns-in_ok-open_alone-in-Ok-clause-entered g c =
    let s = c.args.self.now.type_inputs in
    record {
      read = c.in-Ok.ensures.answer;
      opens = c.in_ok-open_alone-in-Ok.ensures;
      parts = ap (λ f. f.failed) c.in-Ok.ensures.unchanged;
    }

pub returns-in_ok-refuse-in-Err-clause-entered : goal.returns-in_ok-refuse-in-Err-clause-entered
returns-in_ok-refuse-in-Err-clause-entered g c = λ next.
    let w = formatter_inputs g.P.ModuleProvider.info c.args.self.now.type_inputs c.args.module_index in
    let refused = c.in_ok-refuse-in-Err.ensures.fails in
    let read_error = read_error-is (w.read c.args.index.0) c.in-Err.read_error refused.read_error_view
    c.in-Err.ensures.answer refused.known in
    let ran = rw c.in-Err.ensures.unchanged at refused.ran in
    let advances = advances_refused w
    (w.read c.args.index.0) next refused.read_error_view c.args.progress.now _ c.args.self.now.failed _ read_error
    c.requires.no_failure refused.steps ran in
    closing_advances w 1 (on_read (w.read c.args.index.0) next) c.args.progress.now _ c.args.self.now.failed _ advances

pub returns-in_ok-refuse-in-Err-clause-monotone : goal.returns-in_ok-refuse-in-Err-clause-monotone
returns-in_ok-refuse-in-Err-clause-monotone g c =
    let w = formatter_inputs g.P.ModuleProvider.info c.args.self.now.type_inputs c.args.module_index in
    later-adds c.in-Err.ensures.unchanged c.in_ok-refuse-in-Err.ensures.type_inputs
    (c.in_ok-refuse-in-Err.ensures.broken w
    (read_error-broken w c.args.index.0 c.in-Err.read_error c.in-Err.ensures.answer))

pub returns-in_err-refuse-in-Err-clause-monotone : goal.returns-in_err-refuse-in-Err-clause-monotone
returns-in_err-refuse-in-Err-clause-monotone g c =
    let w = formatter_inputs g.P.ModuleProvider.info c.args.self.now.type_inputs c.args.module_index in
    later-adds c.in-Err.ensures.unchanged c.in_err-refuse-in-Err.ensures.type_inputs
    (c.in_err-refuse-in-Err.ensures.broken w
    (read_error-broken w c.args.index.0 c.in-Err.read_error c.in-Err.ensures.answer))
