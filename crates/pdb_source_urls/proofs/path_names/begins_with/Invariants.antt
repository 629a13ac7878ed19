-- The name begins with the path exactly if what is left of it begins with what is left of the path.
use Rattle.std.proofs.Common.{◌≡◌, drop}
use Rattle.pdb_source_urls.specs.PathNames.{begins_with}
use Rattle.pdb_source_urls.proofs.path_names.begins_with.Given as goal

abbrev pub invariant-loop-at : goal.invariant-loop-at
invariant-loop-at l = begins_with l.name l.path ≡ begins_with (drop l.at l.name) (drop l.at l.path)
