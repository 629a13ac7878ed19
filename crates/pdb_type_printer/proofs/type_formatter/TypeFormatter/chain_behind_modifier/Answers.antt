use Rattle.std.proofs.lemmas.Result.{on_ok_weaker}
use Rattle.std.proofs.Common.{refl}
use Rattle.std.specs.Prelude.{reverse}
use Rattle.pdb_type_texts.specs.Plans.{BehindModifier}
use Rattle.pdb_type_texts.specs.Rules.{behind_modifier}
use Rattle.pdb_type_texts.specs.PrintInputs.{formatter_inputs}
use Rattle.pdb_type_printer.proofs.TurnLemmas.{turned_some, turned_none}
use Rattle.pdb_type_printer.proofs.type_formatter.TypeFormatter.chain_behind_modifier.Goals as goal

pub returns-in-None-clause-advances : goal.returns-in-None-clause-advances
returns-in-None-clause-advances g c =
    let w = formatter_inputs g.P.ModuleProvider.info c.args.self.now.type_inputs c.args.module_index in
    let failed = rw c.in-None.is at c.in_ok-enter.ensures.entered in
    turned_none w (BehindModifier (reverse c.args.attributes.items) c.args.target.0) c.args.target.0
    (behind_modifier w (reverse c.args.attributes.items)) c.args.progress.now _ _ _ refl
    (failed (behind_modifier w (reverse c.args.attributes.items)))

pub returns-in-Some-clause-advances : goal.returns-in-Some-clause-advances
returns-in-Some-clause-advances g c = on_ok_weaker c.behind_modifier.result (λ ok.
    let w = formatter_inputs g.P.ModuleProvider.info c.args.self.now.type_inputs c.args.module_index in
    let entered = rw c.in-Some.is at c.in_ok-enter.ensures.entered in
    turned_some w (BehindModifier (reverse c.args.attributes.items) c.args.target.0) c.args.target.0
    (behind_modifier w (reverse c.args.attributes.items)) c.in-Some.type_data.now c.args.progress.now _ _ _ _ refl
    entered (ok w))
    c.behind_modifier.ensures
