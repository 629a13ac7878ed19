-- The entries are those of the subsections that were read and of those that are left.
use Rattle.std.proofs.Common.{◌≡◌, drop, map}
use Rattle.pdb_msf.specs.Readings.{behind}
use Rattle.pdb_codeview.specs.Files.{all_entries}
use Rattle.pdb_codeview.proofs.files.push_all_entries.Given as goal

abbrev pub invariant-loop-subsection : goal.invariant-loop-subsection
invariant-loop-subsection l = behind l.initial.entries.items (all_entries (map (λ s. s.now) l.subsections))
    ≡ behind l.entries.items (all_entries (map (λ s. s.now) (drop l.subsection-index l.subsections)))
