-- The names and the table's size, and what stands after the bits.
use Rattle.std.proofs.Common.{◌≡◌, ◌∙◌, ◌+◌, ◌<◌, length, ap, arith}
use Rattle.std.proofs.lemmas.Grind.{common_steps}
use Rattle.pdb_msf.specs.NumberLists.{number}
use Rattle.pdb_container.proofs.InfoLemmas.{all_there, behind_one, bits_at, cut_at}
use Rattle.pdb_container.proofs.InfoLemmas.{cut_bits, names_are, names_at, present_at, table_at}
use Rattle.pdb_container.proofs.info.take_table_front.Goals as goal
use Rattle.pdb_container.specs.Info.{deleted_place, names_size, pairs_place, present_place, table_place}

pub returns-in_err-length-clause-refused : goal.returns-in_err-length-clause-refused
returns-in_err-length-clause-refused c =
    let short : length c.args.bytes.now < pairs_place c.args.bytes.now
    = cut_at c.args.bytes.now _ 28 4 _ c.in_ok-take.ensures.state c.in_err-length.ensures.refused (omega arith) in
    grind (arith, common_steps, short)

pub returns-in_err-names-clause-refused : goal.returns-in_err-names-clause-refused
returns-in_err-names-clause-refused c =
    let is : c.in_ok-length.length ≡ names_size c.args.bytes.now
    = c.in_ok-length.ensures.answer ∙ ap number c.in_ok-take.ensures.state in
    let short : length c.args.bytes.now < pairs_place c.args.bytes.now
    = cut_at c.args.bytes.now _ 32 c.in_ok-length.length _
    (names_at c.args.bytes.now _ _ c.in_ok-take.ensures.state c.in_ok-length.ensures.state)
    c.in_err-names.ensures.refused (omega (arith, is)) in
    grind (arith, common_steps, short)

pub returns-in_err-count-clause-refused : goal.returns-in_err-count-clause-refused
returns-in_err-count-clause-refused c =
    let at = table_at c.args.bytes.now _ _ _ _ c.in_ok-take.ensures.state c.in_ok-length.ensures.answer
    c.in_ok-length.ensures.state c.in_ok-names.ensures.state in
    let short : length c.args.bytes.now < pairs_place c.args.bytes.now
    = cut_at c.args.bytes.now _ (table_place c.args.bytes.now) 4 _ at c.in_err-count.ensures.refused (omega arith) in
    grind (arith, common_steps, short)

pub returns-in_err-u32-clause-refused : goal.returns-in_err-u32-clause-refused
returns-in_err-u32-clause-refused c =
    let at = table_at c.args.bytes.now _ _ _ _ c.in_ok-take.ensures.state c.in_ok-length.ensures.answer
    c.in_ok-length.ensures.state c.in_ok-names.ensures.state in
    let short : length c.args.bytes.now < pairs_place c.args.bytes.now
    = cut_at c.args.bytes.now _ (table_place c.args.bytes.now + 4) 4 _
    (behind_one c.args.bytes.now _ _ (table_place c.args.bytes.now) 4 at c.in_ok-count.ensures.state)
    c.in_err-u32.ensures.refused (omega arith) in
    grind (arith, common_steps, short)

pub returns-in_err-pass_bits-clause-refused : goal.returns-in_err-pass_bits-clause-refused
returns-in_err-pass_bits-clause-refused c =
    let at = present_at c.args.bytes.now _ _ _
    (table_at c.args.bytes.now _ _ _ _ c.in_ok-take.ensures.state c.in_ok-length.ensures.answer
    c.in_ok-length.ensures.state c.in_ok-names.ensures.state)
    c.in_ok-count.ensures.state c.in_ok-u32.ensures.state in
    let short : length c.args.bytes.now < pairs_place c.args.bytes.now
    = cut_bits c.args.bytes.now _ (present_place c.args.bytes.now) _ at c.in_err-pass_bits.ensures.refused
    (omega arith) in
    grind (arith, common_steps, short)

pub returns-in_err-pass_bits-2-clause-refused : goal.returns-in_err-pass_bits-2-clause-refused
returns-in_err-pass_bits-2-clause-refused c =
    let at = bits_at c.args.bytes.now _ _ (present_place c.args.bytes.now) (present_at c.args.bytes.now _ _ _
    (table_at c.args.bytes.now _ _ _ _ c.in_ok-take.ensures.state c.in_ok-length.ensures.answer
    c.in_ok-length.ensures.state c.in_ok-names.ensures.state)
    c.in_ok-count.ensures.state c.in_ok-u32.ensures.state) c.in_ok-pass_bits.ensures.state in
    let short : length c.args.bytes.now < pairs_place c.args.bytes.now
    = cut_bits c.args.bytes.now _ (deleted_place c.args.bytes.now) _ at c.in_err-pass_bits-2.ensures.refused
    (omega arith) in
    grind (arith, common_steps, short)

pub returns-clause-names : goal.returns-clause-names
returns-clause-names c =
    names_are c.args.bytes.now _ _ _ _ c.in_ok-take.ensures.state c.in_ok-length.ensures.answer
    c.in_ok-length.ensures.state c.in_ok-names.ensures.answer

pub returns-clause-size : goal.returns-clause-size
returns-clause-size c =
    c.in_ok-count.ensures.answer ∙ ap number (table_at c.args.bytes.now _ _ _ _ c.in_ok-take.ensures.state
    c.in_ok-length.ensures.answer c.in_ok-length.ensures.state c.in_ok-names.ensures.state)

pub returns-clause-there : goal.returns-clause-there
returns-clause-there c =
    let at = bits_at c.args.bytes.now _ _ (present_place c.args.bytes.now) (present_at c.args.bytes.now _ _ _
    (table_at c.args.bytes.now _ _ _ _ c.in_ok-take.ensures.state c.in_ok-length.ensures.answer
    c.in_ok-length.ensures.state c.in_ok-names.ensures.state)
    c.in_ok-count.ensures.state c.in_ok-u32.ensures.state) c.in_ok-pass_bits.ensures.state in
    all_there c.args.bytes.now _ (deleted_place c.args.bytes.now) at c.in_ok-pass_bits-2.ensures.there

pub returns-clause-state : goal.returns-clause-state
returns-clause-state c =
    bits_at c.args.bytes.now _ _ (deleted_place c.args.bytes.now)
    (bits_at c.args.bytes.now _ _ (present_place c.args.bytes.now) (present_at c.args.bytes.now _ _ _
    (table_at c.args.bytes.now _ _ _ _ c.in_ok-take.ensures.state c.in_ok-length.ensures.answer
    c.in_ok-length.ensures.state c.in_ok-names.ensures.state)
    c.in_ok-count.ensures.state c.in_ok-u32.ensures.state) c.in_ok-pass_bits.ensures.state)
    c.in_ok-pass_bits-2.ensures.state
