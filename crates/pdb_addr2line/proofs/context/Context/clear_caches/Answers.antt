-- Caches that have nothing yet are of any records.
use Rattle.std.proofs.Common.{rules}
use Rattle.pdb_addr2line.proofs.context.Context.clear_caches.Goals as goal

pub invariant_of-self : goal.invariant_of-self
invariant_of-self g c = record {
  merged = search rules;
  global_functions = search rules;
  section_table = search rules;
  infos = search rules;
  named = search rules;
  is_cache = c.new.ensures.is_cache _;
  starts = search rules;
}
