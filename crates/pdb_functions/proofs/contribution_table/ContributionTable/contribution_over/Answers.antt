use Rattle.std.proofs.Common.{◌≡◌, ◌*◌, length, arith}
use Rattle.std.proofs.lemmas.List.{length-reverse}
use Rattle.pdb_tables.proofs.DigitLemmas.{digits_mono, digits_double}
use Rattle.pdb_functions.proofs.contribution_table.ContributionTable.contribution_over.Goals as goal

pub returns-clause-bound : goal.returns-clause-bound
returns-clause-bound c =
    let same : length c.args.self.now ≡ length c.self.inside.last_first.items =
    rw (← c.self.view_is) (length-reverse c.self.inside.last_first.items) in
    let fewer = digits_mono (length c.self.inside.segments) (2 * length c.args.self.now)
    (omega (arith, same, c.self.invariant.at_most_two_each)) in
    omega (arith, fewer, digits_double (length c.args.self.now), c.find.ensures.bound)
