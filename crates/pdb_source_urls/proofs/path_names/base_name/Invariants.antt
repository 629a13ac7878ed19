-- The name so far, with the slashes that are left, gives the name by the whole path.
use Rattle.std.proofs.Common.{◌≡◌, drop}
use Rattle.pdb_source_urls.specs.PathNames.{after_slashes, base_name}
use Rattle.pdb_source_urls.proofs.path_names.base_name.Given as goal

abbrev pub invariant-loop-at : goal.invariant-loop-at
invariant-loop-at l = after_slashes (drop l.at l.path) l.name ≡ base_name l.path
