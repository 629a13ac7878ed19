-- By the key's bytes.
use Rattle.std.proofs.Common.{◌≡◌, ◌∙◌, ap, string_bytes}
use Rattle.std.specs.BTreeMap.{insert_entry}
use Rattle.std.specs.Cmp.Lexicographic.{slice_cmp}
use Rattle.std.specs.Ordering.{nat_cmp}
use Rattle.pdb_symbolication.specs.Findings.{by_bytes}
use Rattle.pdb_symbolication.specs.declared.findings.Finding.{Finding}
use Rattle.pdb_symbolication.proofs.FindingLemmas.{insert_entry-by_bytes, lookup-by_bytes}
use Rattle.pdb_symbolication.proofs.findings.add_finding.Goals as goal

pub returns : goal.returns
returns c =
    let known = c.args.findings.now.entries in
    let same = lookup-by_bytes (string_bytes c.args.key) known in
    let more = insert_entry-by_bytes c.args.key c.standing-standing.result known in
    let added : by_bytes c.insert.new.self.entries ≡ insert_entry (slice_cmp nat_cmp) (by_bytes known)
    (string_bytes c.args.key) c.standing-standing.result =
    ap by_bytes c.in_ok-insert.ensures.entries ∙ more in
    let stands = c.standing-standing.ensures in
    let before = c.copied.ensures in
    let there = c.get.ensures.value in
    added ∙ ap (λ (finding : Finding).
    insert_entry (slice_cmp nat_cmp) (by_bytes known) (string_bytes c.args.key) finding)
    (rw same cc)
