-- The rows are those of the blocks that were read and of those that are left.
use Rattle.std.proofs.Common.{◌≡◌, drop}
use Rattle.pdb_msf.specs.ItemLists.{concatenated}
use Rattle.pdb_msf.specs.Readings.{behind}
use Rattle.pdb_codeview.specs.LineSubsections.{block_rows}
use Rattle.pdb_codeview.proofs.line_subsections.push_blocks.Given as goal

abbrev pub invariant-loop-block : goal.invariant-loop-block
invariant-loop-block l =
    behind l.initial.rows.items (concatenated (block_rows l.files.entries.items l.start) l.blocks)
    ≡ behind l.rows.items (concatenated (block_rows l.files.entries.items l.start) (drop l.block-index l.blocks))
