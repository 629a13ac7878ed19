use Rattle.std.proofs.Common.{arith}
use Rattle.pdb_functions.proofs.KeyLemmas.{section_offsets_have_keys}
use Rattle.pdb_functions.proofs.contribution_table.ModuleSectionContributionSpan.keys.Goals as goal

pub returns : goal.returns
returns c =
    let span = c.args.self.now in
    section_offsets_have_keys _ _ span.section_index span.start_offset span.end_offset c.key.ensures.answer
    c.key-2.ensures.answer (omega arith)
