-- The bytes after a byte order mark are the JSON text of the value that is read, or of none.
use Rattle.std.proofs.Common.{◌≡◌, map, sym}
use Rattle.std.specs.Prelude.{Some, None}
use Rattle.std.specs.Str.{IsUtf8}
use Rattle.serde_json.specs.Read.{read}
use Rattle.serde_json.specs.View.{view}
use Rattle.pdb_source_urls.specs.SourceLinks.{link_seen, without_mark}
use Rattle.pdb_source_urls.proofs.JsonLemmas.{text_none, text_read}
use Rattle.pdb_source_urls.proofs.source_links.with_text.Goals as goal

pub returns-in-Ok : goal.returns-in-Ok
returns-in-Ok c =
    let cut = c.without_mark.ensures in
    let utf8 : IsUtf8 (without_mark c.args.stream.now) = rw (← cut) c.in-Ok.ensures.ok.0 in
    let is_read : read (without_mark c.args.stream.now) ≡ Some (view c.in-Ok.value) = rw (← cut) c.in-Ok.ensures.ok.1 in
    rw (text_read c.args.stream.now (view c.in-Ok.value) (map link_seen c.args.links.now.items) utf8 is_read)
    c.with_value.ensures

pub returns-in-Err-2 : goal.returns-in-Err-2
returns-in-Err-2 c =
    let cut = c.without_mark.ensures in
    let none : IsUtf8 (without_mark c.args.stream.now) → read (without_mark c.args.stream.now) ≡ None
    = rw (← cut) (c.in-Err.ensures.err (λ memory. let asked = c.is_memory.ensures.1 memory in cc)) in
    sym (text_none c.args.stream.now (map link_seen c.args.links.now.items) none)
