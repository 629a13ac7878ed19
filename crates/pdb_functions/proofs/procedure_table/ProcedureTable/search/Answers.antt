use Rattle.std.proofs.Common.{◌≡◌, ◌*◌, length, arith}
use Rattle.std.proofs.lemmas.List.{length-map}
use Rattle.pdb_tables.proofs.DigitLemmas.{digits_mono, digits_double}
use Rattle.pdb_functions.specs.Procedures.{module_procedure}
use Rattle.pdb_functions.proofs.procedure_table.ProcedureTable.search.Goals as goal

pub returns-clause-bound : goal.returns-clause-bound
returns-clause-bound c =
    let ps = c.self.inside.procedures.items in
    let same : length c.args.self.now ≡ length ps = rw (← c.self.view_is) (length-map ps module_procedure) in
    let fewer = digits_mono (length c.self.inside.segments) (2 * length c.args.self.now)
    (omega (arith, same, c.self.invariant.at_most_two_each)) in
    omega (arith, fewer, digits_double (length c.args.self.now), c.find.ensures.bound)
