use Rattle.pdb_inline.specs.Sites.{walk}
use Rattle.pdb_inline.proofs.NestingLemmas.{procedure_nested}
use Rattle.pdb_inline.proofs.InlineRangeLemmas.{answered_by_depth}
use Rattle.pdb_inline.proofs.inline_ranges.inline_ranges_of_procedure.Goals as goal

pub returns : goal.returns
returns c =
    let symbols = c.symbols.inside.items.items in
    let fault = c.symbols.inside.fault in
    let nested = procedure_nested symbols fault c.args.position.0 c.args.end.0 in
    let found = rw c.deref.ensures.value at c.in_ok-sites.ensures in
    let ranges = rw c.deref-2.ensures.value at c.in_ok-ranges_of_sites.ensures in
    rw (← c.symbols.view_is) (answered_by_depth c.args.inlinees.now.keys
    (walk symbols fault c.args.position.0 c.args.end.0) _ _ nested found ranges)
