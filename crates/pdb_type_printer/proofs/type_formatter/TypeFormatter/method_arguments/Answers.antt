use Rattle.std.proofs.lemmas.Result.{on_ok_weaker}
use Rattle.std.proofs.Common.{ap, sym, ◌≡◌, false, cond, []}
use Rattle.pdb_type_texts.specs.FlagTests.{without_arguments}
use Rattle.pdb_type_texts.specs.Plans.{MethodArguments, opening, written}
use Rattle.pdb_type_texts.specs.Progress.{open_in}
use Rattle.pdb_type_texts.specs.Methods.{on_list}
use Rattle.pdb_type_texts.specs.PrintInputs.{formatter_inputs}
use Rattle.pdb_type_printer.proofs.TurnLemmas.{turned_entered, turned_none}
use Rattle.pdb_type_printer.proofs.type_formatter.TypeFormatter.method_arguments.Goals as goal

pub returns-in-None-clause-advances : goal.returns-in-None-clause-advances
returns-in-None-clause-advances g c =
    let w = formatter_inputs g.P.ModuleProvider.info c.args.self.now.type_inputs c.args.module_index in
    let next = on_list w c.args.m.now c.args.form in
    let list = c.args.m.now.argument_list.0 in
    let wanted : without_arguments w.flags ≡ false = sym (rw c.flags.ensures at c.if-without_arguments.ensures) in
    let rules = ap (λ b. cond b (written []) (opening w (open_in c.args.progress.now.steps) list next)) wanted in
    let failed = rw c.in-None.is at c.in_ok-enter.ensures.entered in
    turned_none w (MethodArguments c.args.m.now c.args.form) list next c.args.progress.now _
    c.args.self.now.failed _ rules (failed next)

pub returns-in-Some-clause-advances : goal.returns-in-Some-clause-advances
returns-in-Some-clause-advances g c = on_ok_weaker c.on_list.result (λ ok.
    let w = formatter_inputs g.P.ModuleProvider.info c.args.self.now.type_inputs c.args.module_index in
    let next = on_list w c.args.m.now c.args.form in
    let list = c.args.m.now.argument_list.0 in
    let wanted : without_arguments w.flags ≡ false = sym (rw c.flags.ensures at c.if-without_arguments.ensures) in
    let rules = ap (λ b. cond b (written []) (opening w (open_in c.args.progress.now.steps) list next)) wanted in
    let entered = rw c.in-Some.is at c.in_ok-enter.ensures.entered in
    turned_entered w (MethodArguments c.args.m.now c.args.form) list next c.in-Some.type_data.now
    c.args.progress.now _ _ c.args.self.now.failed _ _ rules entered
    (rw c.in_ok-enter.ensures.monotone.type_inputs at ok))
    c.on_list.ensures.advances
