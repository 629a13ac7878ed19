use Rattle.std.proofs.Common.{◌≡◌, ◌+◌, ◌-◌, length, sym, arith}
use Rattle.std.proofs.lemmas.Option.{slice_get_within}
use Rattle.pdb_tables.proofs.SegmentLemmas.{end_from-last}
use Rattle.pdb_tables.proofs.painting.end_of.Goals as goal

pub returns-in-Some : goal.returns-in-Some
returns-in-Some g c =
    let n = length c.args.segments.now in
    let last = sym c.in-Some.ensures.value in
    let within = slice_get_within c.args.segments.now (n - 1) c.in-Some.last.now last in
    let len : n ≡ (n - 1) + 1 = omega (arith, within) in
    sym (end_from-last 0 (n - 1) c.args.segments.now c.in-Some.last.now last len)
