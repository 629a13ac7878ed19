-- What is known of the files is what was copied and what is left.
use Rattle.std.proofs.Common.{◌≡◌, ◌++◌, drop, map}
use Rattle.pdb_codeview.proofs.files.Files.infos.Given as goal

abbrev pub invariant-loop-entry : goal.invariant-loop-entry
invariant-loop-entry l = map (λ entry. entry.info) l.self.entries.items
    ≡ l.infos.items ++ map (λ entry. entry.info) (drop l.entry-index l.self.entries.items)
