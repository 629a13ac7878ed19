use Rattle.std.proofs.Common.{◌≡◌, drop, map}
use Rattle.pdb_json_records.specs.NameValues.{variant_named}
use Rattle.pdb_json_records.proofs.name_values.named.Given as goal

abbrev pub invariant-loop-known : goal.invariant-loop-known
invariant-loop-known g l =
    variant_named l.name (map (λ entry. (entry.0.now, entry.1)) l.names)
    ≡ variant_named l.name (map (λ entry. (entry.0.now, entry.1)) (drop l.known-index l.names))
