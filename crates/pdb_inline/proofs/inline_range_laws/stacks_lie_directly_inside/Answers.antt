use Rattle.pdb_inline.proofs.NestingLemmas.{procedure_nested}
use Rattle.pdb_inline.proofs.DirectlyInsideLemmas.{stack_directly_inside}
use Rattle.pdb_inline.proofs.StackEntryLemmas.{entry_of_site}
use Rattle.pdb_inline.proofs.inline_range_laws.stacks_lie_directly_inside.Goals as goal

pub returns-clause-of_sites : goal.returns-clause-of_sites
returns-clause-of_sites c = search entry_of_site

pub returns-clause-directly : goal.returns-clause-directly
returns-clause-directly c = search (stack_directly_inside, procedure_nested)
