-- The rows of all annotations are those that were written, and those from here on.
use Rattle.std.proofs.Common.{◌≡◌, ◌++◌, drop}
use Rattle.std.specs.Prelude.{None}
use Rattle.pdb_codeview.specs.AnnotationRows.{rows_from}
use Rattle.pdb_codeview.proofs.annotation_rows.rows_of.Given as goal

abbrev pub invariant-loop-annotation : goal.invariant-loop-annotation
invariant-loop-annotation l =
    rows_from l.initial.position None l.annotations ≡ l.rows.items ++ rows_from l.position l.last
    (drop l.annotation-index l.annotations)
