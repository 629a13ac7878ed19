use Rattle.std.proofs.Common.{◌≡◌, ◌+◌, ◌-◌, ◌<◌, length, arith, rules, vec_len}
use Rattle.pdb_type_texts.proofs.AttributeLemmas.{with_target-last}
use Rattle.pdb_type_texts.proofs.attributes.point_to.Goals as goal

pub returns-in-Some : goal.returns-in-Some
returns-in-Some c =
    let some : 0 < vec_len c.args.attributes.now = search rules in
    let last : vec_len c.args.attributes.now - 1 + 1 ≡ length c.args.attributes.now.items = omega arith in
    with_target-last c.args.constant c.args.attributes.now.items
    (vec_len c.args.attributes.now - 1) c.in-Some.last.now last
    c.in-Some.ensures.value
