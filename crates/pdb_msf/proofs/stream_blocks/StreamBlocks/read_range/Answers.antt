-- A range of the stream, by the blocks that were read for it, and where these end.
use Rattle.std.proofs.Common.{◌∙◌, ◌+◌, ◌-◌, ◌%◌, ◌≤◌, min, sym, ap, arith}
use Rattle.std.proofs.lemmas.Grind.{common_steps}
use Rattle.pdb_msf.specs.StreamBlocks.{BlockList}
use Rattle.pdb_msf.specs.Streams.{blocks_end}
use Rattle.pdb_msf.proofs.EndLemmas.{part_ends, run_ends}
use Rattle.pdb_msf.proofs.RangeLemmas.{range_of}
use Rattle.pdb_msf.proofs.stream_blocks.StreamBlocks.read_range.Goals as goal

pub returns-clause-answer : goal.returns-clause-answer
returns-clause-answer g c =
    let size = c.len.ensures.answer ∙ sym (ap (λ (b : BlockList). b.size) c.self.view_is) in
    let counted = c.min-count.ensures ∙ ap (min c.args.count)
    (c.saturating_sub.ensures ∙ ap (λ s. s - c.args.place) size) in
    rw (← c.self.view_is) (range_of _ _ _ _ _ _ _ _ _ _ _ _ _ _ _ c.self.invariant.inside (omega arith)
    c.self.invariant.enough c.as_slice-numbers.ensures.value c.numbers_from.ensures counted (omega arith)
    c.start.ensures.answer c.min.ensures c.div_ceil-more.ensures c.clear.ensures.items c.append_run.ensures.inputs c.in_ok-append_run.ensures.answer
    c.in_ok-append_blocks.ensures.answer c.truncate.ensures.items)

pub returns-in_err-append_run-clause-refused : goal.returns-in_err-append_run-clause-refused
returns-in_err-append_run-clause-refused g c =
    let grid = c.self.inside.grid in
    let size = c.len.ensures.answer ∙ sym (ap (λ (b : BlockList). b.size) c.self.view_is) in
    let ends : c.start.result + c.args.place % grid.block_size + c.min.result ≤ grid.file_length
    = run_ends grid.block_size grid.file_length c.args.place c.self.inside.size c.start.result c.min.result
    c.self.inside.numbers.items c.self.invariant.inside (omega arith) c.self.invariant.enough (omega arith)
    (rw c.as_slice-numbers.ensures.value at c.start.ensures.answer) (omega arith) in
    let same = ap (λ (b : BlockList). b.file_length) c.self.view_is in
    grind (arith, common_steps)

pub returns-in_err-append_blocks-clause-refused : goal.returns-in_err-append_blocks-clause-refused
returns-in_err-append_blocks-clause-refused g c =
    let grid = c.self.inside.grid in
    let ends : blocks_end grid.block_size c.numbers_from.result.now ≤ grid.file_length
    = part_ends grid.block_size grid.file_length _ _ c.self.inside.numbers.items c.numbers_from.result.now
    c.self.invariant.inside (rw c.as_slice-numbers.ensures.value at c.numbers_from.ensures) in
    let same = ap (λ (b : BlockList). b.file_length) c.self.view_is in
    grind (arith, common_steps)
