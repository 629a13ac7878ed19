use Rattle.std.proofs.Common.{◌≡◌, ◌*◌, length, ap, arith}
use Rattle.pdb_tables.proofs.DigitLemmas.{digits_mono, digits_double}
use Rattle.pdb_functions.proofs.section_table.SectionTable.section_offset_of.Goals as goal

pub returns-in_err-section-clause-bound : goal.returns-in_err-section-clause-bound
returns-in_err-section-clause-bound c =
    let same : length c.self.inside.address_map.now ≡ length c.args.self.now = ap length c.self.view_is in
    let fewer = digits_mono (length c.self.inside.segments) (2 * length c.args.self.now)
    (omega (arith, same, c.self.invariant.at_most_two_each)) in
    omega (arith, fewer, digits_double (length c.args.self.now), c.find.ensures.bound)

pub returns-clause-bound : goal.returns-clause-bound
returns-clause-bound c =
    let same : length c.self.inside.address_map.now ≡ length c.args.self.now = ap length c.self.view_is in
    let fewer = digits_mono (length c.self.inside.segments) (2 * length c.args.self.now)
    (omega (arith, same, c.self.invariant.at_most_two_each)) in
    omega (arith, fewer, digits_double (length c.args.self.now), c.find.ensures.bound)
