use Rattle.std.proofs.lemmas.Result.{on_ok_weaker}
use Rattle.std.proofs.Common.{sym}
use Rattle.pdb_type_texts.specs.PrintInputs.{formatter_inputs}
use Rattle.pdb_type_printer.proofs.TurnLemmas.{advances_done, advances_stands, written_run}
use Rattle.pdb_type_printer.proofs.type_formatter.TypeFormatter.turn.Goals as goal

pub returns-in-Written-clause-advances : goal.returns-in-Written-clause-advances
returns-in-Written-clause-advances g c = on_ok_weaker c.write.result (λ wrote.
    let w = formatter_inputs g.P.ModuleProvider.info c.args.self.now.type_inputs c.args.module_index in
    let failed = c.args.self.now.failed in
    let ran = written_run _ c.args.progress.now _ failed c.requires.no_failure (rw c.flags.ensures at wrote) in
    rw c.in-Written.is (advances_done w _ c.args.progress.now _ failed failed c.requires.no_failure ran.0 ran.1))
    c.write.ensures

pub returns-in-Returned-clause-advances : goal.returns-in-Returned-clause-advances
returns-in-Returned-clause-advances g c = on_ok_weaker c.returned.result (λ ok.
    let w = formatter_inputs g.P.ModuleProvider.info c.args.self.now.type_inputs c.args.module_index in
    rw c.in-Returned.is (advances_stands w 1 _ c.args.progress.now _ (ok w) c.args.self.now.failed))
    c.returned.ensures

pub returns-in-Types-clause-advances : goal.returns-in-Types-clause-advances
returns-in-Types-clause-advances g c = on_ok_weaker c.types_between.result (λ ok.
    let w = formatter_inputs g.P.ModuleProvider.info c.args.self.now.type_inputs c.args.module_index in
    rw c.in-Types.is (advances_stands w 1 _ c.args.progress.now _
    (ok w) c.args.self.now.failed))
    c.types_between.ensures

pub returns-in-FurtherTypes-clause-advances :
    goal.returns-in-FurtherTypes-clause-advances
returns-in-FurtherTypes-clause-advances g c = on_ok_weaker c.further_types.result (λ ok.
    let w = formatter_inputs g.P.ModuleProvider.info c.args.self.now.type_inputs c.args.module_index in
    rw c.in-FurtherTypes.is (advances_stands w 1 _ c.args.progress.now _
    (ok w) c.args.self.now.failed))
    c.further_types.ensures

pub returns-in-FunctionArguments-clause-advances :
    goal.returns-in-FunctionArguments-clause-advances
returns-in-FunctionArguments-clause-advances g c = on_ok_weaker c.function_arguments.result (λ ok.
    let w = formatter_inputs g.P.ModuleProvider.info c.args.self.now.type_inputs c.args.module_index in
    rw c.in-FunctionArguments.is
    (advances_stands w 1 _ c.args.progress.now _
    (ok w (sym c.flags-in-FunctionArguments.ensures))
    c.args.self.now.failed))
    c.function_arguments.ensures

pub returns-in-Scope-clause-advances : goal.returns-in-Scope-clause-advances
returns-in-Scope-clause-advances g c = on_ok_weaker c.scope.result (λ ok.
    let w = formatter_inputs g.P.ModuleProvider.info c.args.self.now.type_inputs c.args.module_index in
    rw c.in-Scope.is (advances_stands w 1 _ c.args.progress.now _
    (ok w) c.args.self.now.failed))
    c.scope.ensures
