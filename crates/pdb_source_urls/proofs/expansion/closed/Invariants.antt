-- The parenthesis that closes is found in the bytes that are left. Each byte so far has opened at most one.
use Rattle.std.proofs.Common.{◌≡◌, ◌+◌, ◌≤◌, drop, option_map}
use Rattle.pdb_source_urls.specs.Expansion.{closing}
use Rattle.pdb_source_urls.proofs.expansion.closed.Given as goal

abbrev pub invariant-loop-place : goal.invariant-loop-place
invariant-loop-place l = record {
  found : closing 0 l.text ≡ option_map (λ n. n + l.place) (closing l.inner (drop l.place l.text));
  few : l.inner ≤ l.place;
}
