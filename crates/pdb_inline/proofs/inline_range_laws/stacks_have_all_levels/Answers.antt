use Rattle.std.proofs.Common.{[], arith}
use Rattle.pdb_inline.specs.Sites.{walk}
use Rattle.pdb_inline.proofs.NestingLemmas.{procedure_nested}
use Rattle.pdb_inline.proofs.InlineStackLemmas.{length-inline_stack, not_covered_past}
use Rattle.pdb_inline.proofs.inline_range_laws.stacks_have_all_levels.Goals as goal

pub returns-clause-all : goal.returns-clause-all
returns-clause-all c = search (length-inline_stack, procedure_nested)

pub returns-clause-no_more : goal.returns-clause-no_more
returns-clause-no_more c = λ inlinees symbols fault position end depth x deep.
    not_covered_past inlinees 0 [] (walk symbols fault position end).sites depth x
    (procedure_nested symbols fault position end) (omega (arith, deep))
