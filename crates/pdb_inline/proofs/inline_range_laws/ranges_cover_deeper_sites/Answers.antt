use Rattle.pdb_inline.proofs.NestingLemmas.{procedure_nested}
use Rattle.pdb_inline.proofs.CoverLemmas.{has_range_over_nested}
use Rattle.pdb_inline.proofs.inline_range_laws.ranges_cover_deeper_sites.Goals as goal

pub returns : goal.returns
returns c = search (has_range_over_nested, procedure_nested)
