use Rattle.std.proofs.Common.{◌∙◌, ◌+◌, sym}
use Rattle.pdb_inline.specs.Sites.{walk}
use Rattle.pdb_inline.proofs.NestingLemmas.{procedure_nested}
use Rattle.pdb_inline.proofs.CoverLemmas.{has_range_over_nested}
use Rattle.pdb_inline.proofs.InlineStackLemmas.{covered_above}
use Rattle.pdb_inline.proofs.inline_range_laws.ranges_lie_in_ranges_above.Goals as goal

pub returns : goal.returns
returns c = λ inlinees symbols fault position end depth x there.
    let sites = (walk symbols fault position end).sites in
    let nested = procedure_nested symbols fault position end in
    has_range_over_nested inlinees sites depth x nested ∙ covered_above inlinees sites depth x
    (sym (has_range_over_nested inlinees sites (depth + 1) x nested) ∙ there)
