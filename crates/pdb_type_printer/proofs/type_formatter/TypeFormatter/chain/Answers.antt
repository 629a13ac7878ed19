use Rattle.std.proofs.lemmas.Result.{on_ok_weaker}
use Rattle.std.proofs.Common.{refl}
use Rattle.std.specs.Prelude.{reverse}
use Rattle.pdb_type_texts.specs.Plans.{Chain}
use Rattle.pdb_type_texts.specs.Rules.{behind_pointer}
use Rattle.pdb_type_texts.specs.PrintInputs.{formatter_inputs}
use Rattle.pdb_type_printer.proofs.TurnLemmas.{turned_some, turned_none}
use Rattle.pdb_type_printer.proofs.type_formatter.TypeFormatter.chain.Goals as goal

pub returns-in-None-clause-advances : goal.returns-in-None-clause-advances
returns-in-None-clause-advances g c =
    let w = formatter_inputs g.P.ModuleProvider.info c.args.self.now.type_inputs c.args.module_index in
    let failed = rw c.in-None.is at c.in_ok-enter.ensures.entered in
    turned_none w (Chain (reverse c.args.attributes.items) c.args.target.0) c.args.target.0
    (behind_pointer w (reverse c.args.attributes.items)) c.args.progress.now _ _ _ refl
    (failed (behind_pointer w (reverse c.args.attributes.items)))

pub returns-in-Some-clause-advances : goal.returns-in-Some-clause-advances
returns-in-Some-clause-advances g c = on_ok_weaker c.behind_pointer.result (λ ok.
    let w = formatter_inputs g.P.ModuleProvider.info c.args.self.now.type_inputs c.args.module_index in
    let entered = rw c.in-Some.is at c.in_ok-enter.ensures.entered in
    turned_some w (Chain (reverse c.args.attributes.items) c.args.target.0) c.args.target.0
    (behind_pointer w (reverse c.args.attributes.items)) c.in-Some.type_data.now c.args.progress.now _ _ _ _ refl
    entered (ok w))
    c.behind_pointer.ensures
