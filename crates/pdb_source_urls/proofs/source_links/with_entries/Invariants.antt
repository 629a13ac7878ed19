-- With the entries that are left, the entries are those of the whole map.
use Rattle.std.proofs.Common.{◌≡◌, map}
use Rattle.serde_json.specs.View.{members_view}
use Rattle.pdb_source_urls.specs.SourceLinks.{link_seen, with_entries}
use Rattle.pdb_source_urls.proofs.source_links.with_entries.Given as goal

abbrev pub invariant-loop-path : goal.invariant-loop-path
invariant-loop-path l = with_entries (members_view l.path-iterator) (map link_seen l.links.items)
    ≡ with_entries (members_view l.entries.entries) (map link_seen l.initial.links.items)
