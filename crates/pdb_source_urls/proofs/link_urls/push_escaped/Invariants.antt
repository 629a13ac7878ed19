-- What is written, and the bytes that are left, are all that is to be written.
use Rattle.std.proofs.Common.{◌≡◌, ◌++◌, drop, string_bytes}
use Rattle.pdb_source_urls.specs.LinkUrls.{escaped}
use Rattle.pdb_source_urls.proofs.link_urls.push_escaped.Given as goal

abbrev pub invariant-loop-byte : goal.invariant-loop-byte
invariant-loop-byte l = string_bytes l.url ++ escaped (drop l.byte-index l.rest)
    ≡ string_bytes l.initial.url ++ escaped l.rest
