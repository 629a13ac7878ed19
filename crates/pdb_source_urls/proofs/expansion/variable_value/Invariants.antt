-- The last value of those so far and those that are left is the last of all.
use Rattle.std.proofs.Common.{◌≡◌, drop, map, option_map}
use Rattle.pdb_source_urls.specs.Expansion.{last_value, variable_value}
use Rattle.pdb_source_urls.specs.SourceServer.{definition_seen}
use Rattle.pdb_source_urls.proofs.expansion.variable_value.Given as goal

abbrev pub invariant-loop-variable : goal.invariant-loop-variable
invariant-loop-variable l = last_value l.name (option_map (λ value. value.now) l.found)
    (map definition_seen (drop l.variable-index l.variables)) ≡ variable_value l.name (map definition_seen l.variables)
