-- Caches that have nothing yet are of any records.
use Rattle.std.proofs.Common.{rules}
use Rattle.pdb_addr2line.proofs.context.Context.new_from_parts.Goals as goal

pub invariant_of-result : goal.invariant_of-result
invariant_of-result g c = record {
  merged = search rules;
  global_functions = search rules;
  section_table = search rules;
  infos = search rules;
  named = search rules;
  is_cache = c.new-3.ensures.is_cache _;
  starts = search rules;
}
