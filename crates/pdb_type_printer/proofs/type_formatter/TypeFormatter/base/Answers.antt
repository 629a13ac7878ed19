use Rattle.std.proofs.lemmas.Result.{on_ok_weaker}
use Rattle.std.proofs.Common.{arith, refl, sym, ap}
use Rattle.pdb_type_texts.specs.PrintInputs.{formatter_inputs}
use Rattle.pdb_type_printer.proofs.StandsLemmas.{stands_all, stands_fewer}
use Rattle.pdb_type_printer.proofs.TurnLemmas.{advances_met}
use Rattle.pdb_type_printer.proofs.ReadLemmas.{adds_met}
use Rattle.pdb_type_printer.proofs.type_formatter.TypeFormatter.base.Goals as goal

pub returns-clause-monotone : goal.returns-clause-monotone
returns-clause-monotone g c =
    let w = formatter_inputs g.P.ModuleProvider.info c.self.inside.type_inputs c.args.module_index in
    let met = sym (ap (λ t. t.met) c.in-Ok.ensures.answer) in
    let adds = adds_met w c.args.index.0 _ met c.in_ok-remember.ensures.failed in
    rw (← c.self.view_is) (record { type_inputs = refl; broken = rw c.in-Ok.ensures.state.failed at adds })

pub returns-clause-advances : goal.returns-clause-advances
returns-clause-advances g c = rw (← c.self.view_is) (on_ok_weaker c.push2.result (λ put.
    let w = formatter_inputs g.P.ModuleProvider.info c.self.inside.type_inputs c.args.module_index in
    let row = stands_fewer 0 (omega arith) (stands_all w put) in
    let remembered = rw c.in-Ok.ensures.state.failed at c.in_ok-remember.ensures.failed in
    rw (← c.in-Ok.ensures.answer)
    (advances_met w _ _ c.args.progress.now _ c.self.inside.cache.failed _ c.requires.no_failure remembered row))
    c.push2.ensures)
