-- The blocks that are read end in the file, which has the whole of each.
use Rattle.std.proofs.Common.{◌∙◌, ◌≤◌, sym, arith}
use Rattle.std.proofs.lemmas.Grind.{common_steps}
use Rattle.pdb_msf.proofs.EndLemmas.{ends_within}
use Rattle.pdb_msf.specs.Streams.{blocks_end}
use Rattle.pdb_msf.proofs.block_reads.read_blocks.Goals as goal

pub returns-in_err-append_blocks-clause-refused : goal.returns-in_err-append_blocks-clause-refused
returns-in_err-append_blocks-clause-refused g c =
    let ends : blocks_end c.args.grid.block_size c.args.blocks.now ≤ c.args.grid.file_length
    = ends_within _ _ _ (λ file long. sym (c.has_all.ensures file long) ∙ c.if-not-has_all.false) in
    grind (arith, common_steps)
