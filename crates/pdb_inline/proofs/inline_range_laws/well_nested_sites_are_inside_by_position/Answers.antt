use Rattle.pdb_inline.proofs.WellNestedLemmas.{inside_iff_begins_in}
use Rattle.pdb_inline.proofs.inline_range_laws.well_nested_sites_are_inside_by_position.Goals as goal

pub returns : goal.returns
returns c = inside_iff_begins_in
