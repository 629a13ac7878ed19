use Rattle.std.proofs.Common.{rules, ◌∙◌, sym, ap}
use Rattle.pdb_errors.specs.Outcomes.{and_then}
use Rattle.pdb_types.specs.Resolution.{found_text, module_named}
use Rattle.pdb_types.specs.TypeInputs.{link_inputs}
use Rattle.pdb_types.proofs.type_inputs.TypeInputs.module_under.Goals as goal

pub returns-in-Some-clause-answer : goal.returns-in-Some-clause-answer
returns-in-Some-clause-answer g c =
    let link = link_inputs g.P.ModuleProvider.info c.args.self.now in
    rw c.requires.strings at (c.in-Some.ensures.fits link c.requires.is_cache.named)

pub returns-in_err-insert-clause-state : goal.returns-in_err-insert-clause-state
returns-in_err-insert-clause-state g c =
    let link = link_inputs g.P.ModuleProvider.info c.args.self.now in
    let found = ap (λ text. and_then (found_text c.args.reference text)
    (λ name. module_named c.args.self.now.modules name)) (sym c.in-Some-get.ensures) ∙ c.in_ok-module_index.ensures in
    let named = c.insert.ensures.fits link c.requires.is_cache.named (rw c.requires.strings found) in search rules

pub returns-clause-state : goal.returns-clause-state
returns-clause-state g c =
    let link = link_inputs g.P.ModuleProvider.info c.args.self.now in
    let found = ap (λ text. and_then (found_text c.args.reference text)
    (λ name. module_named c.args.self.now.modules name)) (sym c.in-Some-get.ensures) ∙ c.in_ok-module_index.ensures in
    let named = c.insert.ensures.fits link c.requires.is_cache.named (rw c.requires.strings found) in search rules
