-- The stream is the file's, or it is broken there and in the excerpt.
use Rattle.std.proofs.Common.{◌≡◌, ◌∙◌, ℕ, ◌+◌, ◌-◌, ◌*◌, ◌<◌, ◌≤◌, ◌^◌, length, sym, arith}
use Rattle.std.proofs.lemmas.Grind.{common_steps}
use Rattle.pdb_msf.proofs.EndLemmas.{ends_within}
use Rattle.pdb_msf.specs.Streams.{blocks_end}
use Rattle.pdb_msf.proofs.ExcerptLemmas.{placed, refused}
use Rattle.pdb_msf.proofs.HeldLemmas.{appended_held, begins_after, few_blocks, grown_held, numbered_held, same_later}
use Rattle.pdb_msf.proofs.KnownLemmas.{if_file}
use Rattle.pdb_msf.specs.StreamSubsets.{no_block}
use Rattle.pdb_msf.proofs.stream_subset.append_numbered.Goals as goal

pub returns-then-not-has_all-clause-answer : goal.returns-then-not-has_all-clause-answer
returns-then-not-has_all-clause-answer g c = λ room.
    let left : 4 * length c.args.numbers.now ≤ length c.write_numbers.new.directory - c.args.place = omega arith in
    let few : c.in_ok-first.first < 2 ^ 32 = omega (arith, c.in_ok-first.ensures.bound) in
    if_file _ _ _ (λ file _ long size. refused _ _ _ size file _ _ _
    (sym (c.has_all.ensures file long) ∙ c.if-not-has_all.true) c.in_ok-first.ensures.whole few (omega arith) left
    (rw c.min.ensures at c.write_numbers.ensures.answer))

pub returns-clause-answer : goal.returns-clause-answer
returns-clause-answer g c = λ room.
    let left : 4 * length c.args.numbers.now ≤ length c.write_numbers-2.new.directory - c.args.place = omega arith in
    if_file _ _ _ (λ file is long size. placed _ _ _ size file _ _ _ _
    (sym (c.has_all.ensures file long) ∙ c.if-not-has_all.false) c.in_ok-first.ensures.whole left
    (rw is at c.in_ok-append_blocks.ensures.answer) c.write_numbers-2.ensures.answer)

pub returns-then-not-has_all-clause-behind : goal.returns-then-not-has_all-clause-behind
returns-then-not-has_all-clause-behind g c =
    same_later (c.args.place + 4 * c.min.result) (c.args.place + 4 * length c.args.numbers.now) _ _
    (omega (arith, c.min.ensures)) c.write_numbers.ensures.behind

pub returns-then-not-has_all-clause-held : goal.returns-then-not-has_all-clause-held
returns-then-not-has_all-clause-held g c = λ row front at_row held.
    let size : ℕ = c.args.grid.block_size in
    let first : ℕ = c.in_ok-first.first in
    let count : ℕ = length c.args.numbers.now in
    let whole : length c.fill_up.new.blocks.items ≡ first * size = c.in_ok-first.ensures.whole in
    let few : first + count < 2 ^ 32 = c.in_ok-first.ensures.bound in
    let within : length c.fill_up.new.blocks.items ≤ first * size + count * size = omega (arith, whole) in
    let some : 0 < size = omega arith in
    let most : length c.fill_up.new.blocks.items < no_block * size + size
    = few_blocks size first count _ few some within in
    let grown = grown_held size front c.args.blocks.now.items c.fill_up.new.blocks.items c.args.directory.now
    c.fill_up.ensures.begins most held in
    numbered_held size front row c.args.place c.min.result no_block c.fill_up.new.blocks.items c.args.directory.now
    c.write_numbers.new.directory at_row grown c.write_numbers.ensures.length c.write_numbers.ensures.before
    c.write_numbers.ensures.behind c.write_numbers.ensures.answer (λ index _ below. absurd (omega (arith, below)))

pub returns-clause-held : goal.returns-clause-held
returns-clause-held g c = λ row front at_row held.
    let size : ℕ = c.args.grid.block_size in
    let first : ℕ = c.in_ok-first.first in
    let count : ℕ = length c.args.numbers.now in
    let whole : length c.fill_up.new.blocks.items ≡ first * size = c.in_ok-first.ensures.whole in
    let few : first + count < 2 ^ 32 = c.in_ok-first.ensures.bound in
    let long : length c.append_blocks.new.bytes.items ≡ length c.fill_up.new.blocks.items + count * size
    = c.in_ok-append_blocks.ensures.length in
    let all : length c.append_blocks.new.bytes.items ≡ first * size + count * size = omega (arith, whole, long) in
    let within : length c.append_blocks.new.bytes.items ≤ first * size + count * size = omega (arith, all) in
    let some : 0 < size = omega arith in
    let most : length c.append_blocks.new.bytes.items < no_block * size + size
    = few_blocks size first count _ few some within in
    let begins = begins_after c.args.blocks.now.items c.fill_up.new.blocks.items c.append_blocks.new.bytes.items
    c.fill_up.ensures.begins c.append_blocks.ensures.begins in
    let grown = grown_held size front c.args.blocks.now.items c.append_blocks.new.bytes.items c.args.directory.now
    begins most held in
    numbered_held size front row c.args.place count first c.append_blocks.new.bytes.items c.args.directory.now
    c.write_numbers-2.new.directory at_row grown c.write_numbers-2.ensures.length c.write_numbers-2.ensures.before
    c.write_numbers-2.ensures.behind c.write_numbers-2.ensures.answer
    (λ index there _. appended_held size first count index _ there all)

pub returns-in_err-append_blocks-clause-refused : goal.returns-in_err-append_blocks-clause-refused
returns-in_err-append_blocks-clause-refused g c =
    let ends : blocks_end c.args.grid.block_size c.args.numbers.now ≤ c.args.grid.file_length
    = ends_within _ _ _ (λ file long. sym (c.has_all.ensures file long) ∙ c.if-not-has_all.false) in
    grind (arith, common_steps)
