-- The first such byte is found in the bytes that are left.
use Rattle.std.proofs.Common.{◌≡◌, ◌+◌, drop, option_map}
use Rattle.pdb_source_urls.specs.TextCuts.{place_of}
use Rattle.pdb_source_urls.proofs.text_cuts.cut_at.Given as goal

abbrev pub invariant-loop-place : goal.invariant-loop-place
invariant-loop-place l = place_of l.stop l.text ≡ option_map (λ n. n + l.place) (place_of l.stop (drop l.place l.text))
