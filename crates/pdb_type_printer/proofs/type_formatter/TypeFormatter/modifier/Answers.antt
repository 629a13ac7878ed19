use Rattle.std.proofs.lemmas.Result.{on_ok_weaker}
use Rattle.std.proofs.Common.{refl}
use Rattle.pdb_type_texts.specs.Plans.{Modified}
use Rattle.pdb_type_texts.specs.Rules.{modified}
use Rattle.pdb_type_texts.specs.PrintInputs.{formatter_inputs}
use Rattle.pdb_type_printer.proofs.StandsLemmas.{stands_here}
use Rattle.pdb_type_printer.proofs.TurnLemmas.{turned_some, turned_none}
use Rattle.pdb_type_printer.proofs.type_formatter.TypeFormatter.modifier.Goals as goal

pub returns-in-None-clause-advances : goal.returns-in-None-clause-advances
returns-in-None-clause-advances g c =
    let w = formatter_inputs g.P.ModuleProvider.info c.args.self.now.type_inputs c.args.module_index in
    let failed = rw c.in-None.is at c.in_ok-enter.ensures.entered in
    turned_none w (Modified c.args.m.now.constant c.args.m.now.underlying_type.0) c.args.m.now.underlying_type.0
    (modified w c.args.m.now.constant) c.args.progress.now _ _ _ refl (failed (modified w c.args.m.now.constant))

pub returns-in-Some-clause-advances : goal.returns-in-Some-clause-advances
returns-in-Some-clause-advances g c = on_ok_weaker c.modified.result (λ ok.
    let w = formatter_inputs g.P.ModuleProvider.info c.args.self.now.type_inputs c.args.module_index in
    let entered = rw c.in-Some.is at c.in_ok-enter.ensures.entered in
    turned_some w (Modified c.args.m.now.constant c.args.m.now.underlying_type.0) c.args.m.now.underlying_type.0
    (modified w c.args.m.now.constant) c.in-Some.type_data.now c.args.progress.now _ _ _ _ refl entered
    (stands_here (ok w)))
    c.modified.ensures
