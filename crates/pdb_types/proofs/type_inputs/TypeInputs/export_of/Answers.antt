use Rattle.std.proofs.Common.{rules}
use Rattle.pdb_types.specs.TypeInputs.{link_inputs}
use Rattle.pdb_types.proofs.type_inputs.TypeInputs.export_of.Goals as goal

pub returns-in-Some-clause-answer : goal.returns-in-Some-clause-answer
returns-in-Some-clause-answer g c =
    let link = link_inputs g.P.ModuleProvider.info c.args.self.now in
    rw (c.in-Some.ensures.fits link c.requires.is_cache.exports) (rw c.get-in-Some.ensures at c.found_export.ensures)

pub returns-in_err-insert-clause-state : goal.returns-in_err-insert-clause-state
returns-in_err-insert-clause-state g c =
    let link = link_inputs g.P.ModuleProvider.info c.args.self.now in
    let exports = c.insert.ensures.fits link c.requires.is_cache.exports (search rules) in search rules

pub returns-clause-state : goal.returns-clause-state
returns-clause-state g c =
    let link = link_inputs g.P.ModuleProvider.info c.args.self.now in
    let exports = c.insert.ensures.fits link c.requires.is_cache.exports (search rules) in search rules
