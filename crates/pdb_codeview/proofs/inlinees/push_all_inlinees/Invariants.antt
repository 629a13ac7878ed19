-- The entries are those of the subsections that were read and of those that are left.
use Rattle.std.proofs.Common.{◌≡◌, drop, map}
use Rattle.pdb_msf.specs.Readings.{behind}
use Rattle.pdb_codeview.specs.Inlinees.{all_inlinees}
use Rattle.pdb_codeview.proofs.inlinees.push_all_inlinees.Given as goal

abbrev pub invariant-loop-subsection : goal.invariant-loop-subsection
invariant-loop-subsection l = behind l.initial.listed.items (all_inlinees (map (λ s. s.now) l.subsections))
    ≡ behind l.listed.items (all_inlinees (map (λ s. s.now) (drop l.subsection-index l.subsections)))
