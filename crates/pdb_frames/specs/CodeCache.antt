-- The cache of modules' code.
use Rattle.std.specs.Ordering.{nat_cmp}
use Rattle.pdb_tables.specs.OnceMap.{HoldsOfEach}
use Rattle.pdb_frames.specs.CodeCaches.{ModuleRecords, HasProgram, IsKnownOf, function_cmp, AreRowsOf, procedure_cmp}
use Rattle.pdb_frames.specs.CodeCaches.{AreRangesOf}
use Rattle.pdb_frames.specs.declared.code_cache.CodeCache.{CodeCache}

-- the cached values are those of the records
pub record IsCodeCache (records : ModuleRecords) (cache : CodeCache) : Type 0 where
  pub infos : HoldsOfEach nat_cmp (IsKnownOf records) cache.infos.cached.made
  pub entries : HoldsOfEach nat_cmp (HasProgram records) cache.lines.entries.cached.made
  pub lines : HoldsOfEach function_cmp (AreRowsOf records) cache.lines.cached.made
  pub ranges : HoldsOfEach procedure_cmp (AreRangesOf records) cache.ranges.cached.made
