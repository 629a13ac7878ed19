-- What all numbers list is what was listed and what the numbers that are left list; each number took four bytes.
use Rattle.std.proofs.Common.{◌≡◌, ◌+◌, ◌*◌, length}
use Rattle.pdb_container.proofs.FeatureLemmas.{both}
use Rattle.pdb_container.specs.Info.{all_numbers, features_by}
use Rattle.pdb_container.proofs.info.take_features.Given as goal

abbrev pub invariant-loop : goal.invariant-loop
invariant-loop l = record {
  listed : features_by (all_numbers l.initial.bytes) ≡ both l.features (features_by (all_numbers l.bytes));
  taken : length l.bytes + 4 * l.counter ≡ length l.initial.bytes;
}
