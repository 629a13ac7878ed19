-- The rows of a block that the bytes end in.
use Rattle.std.proofs.Common.{◌∙◌, ◌*◌, ◌<◌, length, Some, sym, ap, arith}
use Rattle.std.proofs.lemmas.Grind.{common_steps}
use Rattle.std.specs.Option.{option_or}
use Rattle.pdb_msf.specs.ItemLists.{entry_list}
use Rattle.pdb_msf.specs.declared.faults.TheConstants.{CUT}
use Rattle.pdb_codeview.specs.InlineSites.{file_at}
use Rattle.pdb_codeview.specs.LineSubsections.{block_rows, line_row}
use Rattle.pdb_codeview.proofs.LineLemmas.{rows_cut}
use Rattle.pdb_codeview.proofs.line_subsections.push_block_rows.Goals as goal

pub returns-in_ok-push_items-in-Err-clause-answer : goal.returns-in_ok-push_items-in-Err-clause-answer
returns-in_ok-push_items-in-Err-clause-answer c =
    let short : length c.block.inside.rows.now < 8 * c.block.inside.count = grind (arith, common_steps) in
    let read = c.in_ok-push_items-in-Err.ensures.answer
    ∙ ap (λ file. (entry_list (line_row file c.args.start) 8 c.block.inside.rows.now).fault)
    c.file_at-file_index.ensures in
    let cut = rows_cut (file_at c.args.files.now.entries.items c.block.inside.file) c.args.start c.block.inside.count
    c.block.inside.rows.now short in
    c.or.ensures ∙ ap (λ fault. option_or fault (Some CUT)) read ∙ sym (ap (λ list. list.fault) cut)
    ∙ ap (λ block. (block_rows c.args.files.now.entries.items c.args.start block).fault) c.block.view_is
