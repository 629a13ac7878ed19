-- The best entry of the one so far and those that are left is the best of all.
use Rattle.std.proofs.Common.{◌≡◌, drop, map, option_map, None}
use Rattle.pdb_source_urls.specs.LinkUrls.{best_link}
use Rattle.pdb_source_urls.specs.SourceLinks.{link_seen}
use Rattle.pdb_source_urls.proofs.link_urls.best_link.Given as goal

abbrev pub invariant-loop-link : goal.invariant-loop-link
invariant-loop-link l =
    best_link l.file (option_map (λ link. link_seen link.now) l.best) (map link_seen (drop l.link-index l.links))
    ≡ best_link l.file None (map link_seen l.links)
