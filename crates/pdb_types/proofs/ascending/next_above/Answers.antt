use Rattle.std.proofs.Common.{◌≡◌, ◌<◌, length, refl, arith}
use Rattle.std.proofs.lemmas.Grind.{common_steps}
use Rattle.std.proofs.lemmas.Bool.Decides.{nat_tests}
use Rattle.std.proofs.lemmas.Option.{slice_get_read}
use Rattle.pdb_types.proofs.AscendingLemmas.{ascends_more, ascends_above}
use Rattle.pdb_types.proofs.ascending.next_above.Goals as goal

pub returns-in_default-clause-ascends : goal.returns-in_default-clause-ascends
returns-in_default-clause-ascends g c =
    let entry = c.in_ok-entry.ensures.lookup in
    let within : c.args.ascending < length c.args.entries.now = grind (arith, nat_tests, entry.0) in
    let first : c.args.ascending ≡ 0 = grind (arith, common_steps, c.in_default.ensures) in
    ascends_more g.T.Numbered.number_of _ _ _ within entry.1 (λ d more. absurd (omega (arith, first, more))) c.requires

pub returns-then-number-clause-entry : goal.returns-then-number-clause-entry
returns-then-number-clause-entry g c =
    let entry = c.in_ok-entry.ensures.lookup in
    let within : c.args.ascending < length c.args.entries.now = grind (arith, nat_tests, entry.0) in
    slice_get_read _ _ _ _ refl within entry.1

pub returns-then-number-clause-ascends : goal.returns-then-number-clause-ascends
returns-then-number-clause-ascends g c =
    let entry = c.in_ok-entry.ensures.lookup in
    let within : c.args.ascending < length c.args.entries.now = grind (arith, nat_tests, entry.0) in
    let less : g.T.Numbered.number_of c.index-entries-last.result < g.T.Numbered.number_of c.in_ok-entry.entry.now =
    rw (← c.number.ensures, ← c.number-2.ensures) c.if-number.true in
    ascends_above g.T.Numbered.number_of _ _ _ within entry.1 _ _ c.in-Some.ensures.1 c.index-entries-last.is less
    c.requires
