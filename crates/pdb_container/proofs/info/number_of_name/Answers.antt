-- The pairs, one by one.
use Rattle.std.proofs.Common.{◌≡◌, ◌∙◌, ◌<◌, Err, length, sym, ap, subst, arith}
use Rattle.std.proofs.lemmas.Grind.{common_steps}
use Rattle.pdb_msf.specs.declared.faults.TheConstants.{CUT}
use Rattle.pdb_container.proofs.NameLemmas.{cut_here, found_here, no_table, not_here, nowhere, shorter_than_a_pair}
use Rattle.pdb_container.proofs.NameLemmas.{with_table}
use Rattle.pdb_container.proofs.info.number_of_name.Goals as goal
use Rattle.pdb_container.specs.Info.{named_stream_number, pairs_place}

pub returns-in_err-names : goal.returns-in_err-names
returns-in_err-names c =
    let is : named_stream_number c.args.name.now c.args.info.now ≡ Err CUT
    = no_table c.args.info.now c.args.name.now
    (subst (λ xs. length xs < pairs_place xs) c.new-bytes.ensures c.in_err-names.ensures.refused) in
    grind (arith, common_steps, is)

pub loop-init : goal.loop-init
loop-init c =
    ap (named_stream_number c.args.name.now) (sym c.new-bytes.ensures)
    ∙ with_table c.new-bytes.result c.args.name.now _ _ _ c.in_ok-names.ensures.there c.in_ok-names.ensures.names
    c.in_ok-names.ensures.size c.in_ok-names.ensures.state

pub returns-in_err-start : goal.returns-in_err-start
returns-in_err-start c =
    let short : length c.loop.bytes < 4 = c.in_err-start.ensures.refused in
    let is : named_stream_number c.args.name.now c.args.info.now ≡ Err CUT
    = cut_here c.args.info.now c.args.name.now c.in_ok-names.names.now c.loop.bytes c.in_ok-names.count c.loop.counter
    c.loop-test.true (omega arith) c.loop.invariant in
    grind (arith, common_steps, is)

pub returns-in_err-number : goal.returns-in_err-number
returns-in_err-number c =
    let is : named_stream_number c.args.name.now c.args.info.now ≡ Err CUT
    = cut_here c.args.info.now c.args.name.now c.in_ok-names.names.now c.loop.bytes c.in_ok-names.count c.loop.counter
    c.loop-test.true
    (shorter_than_a_pair c.loop.bytes _ c.in_ok-start.ensures.state c.in_err-number.ensures.refused)
    c.loop.invariant in
    grind (arith, common_steps, is)

pub returns-then-stands_at : goal.returns-then-stands_at
returns-then-stands_at c =
    sym (found_here c.args.info.now c.args.name.now c.in_ok-names.names.now c.loop.bytes _ c.in_ok-names.count
    c.loop.counter _ _ _ c.loop-test.true c.in_ok-start.ensures.answer c.in_ok-start.ensures.state
    c.in_ok-number.ensures.there c.in_ok-number.ensures.answer c.stands_at.ensures c.if-stands_at.true
    c.loop.invariant)

pub loop-preserved : goal.loop-preserved
loop-preserved c =
    not_here c.args.info.now c.args.name.now c.in_ok-names.names.now c.loop.bytes _ _ c.in_ok-names.count
    c.loop.counter _ _ c.loop-test.true c.in_ok-start.ensures.answer c.in_ok-start.ensures.state
    c.in_ok-number.ensures.there c.in_ok-number.ensures.state c.stands_at.ensures c.if-stands_at.false
    c.loop.invariant

pub returns : goal.returns
returns c =
    sym (nowhere c.args.info.now c.args.name.now c.in_ok-names.names.now c.loop.bytes c.in_ok-names.count
    c.loop.counter c.loop-test.false c.loop.invariant)
