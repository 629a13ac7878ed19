-- The bounds of all procedures are those that were written, and those of the procedures that are left.
use Rattle.std.proofs.Common.{◌≡◌, ◌++◌, length}
use Rattle.pdb_codeview.specs.ProcedureSpans.{row_bounds}
use Rattle.pdb_codeview.proofs.procedure_spans.row_bounds.Given as goal

abbrev pub invariant-loop-rest : goal.invariant-loop-rest
invariant-loop-rest l = row_bounds 0 l.spans ≡ l.bounds.items ++ row_bounds l.reach l.rest

abbrev pub decreases-loop-rest : goal.decreases-loop-rest
decreases-loop-rest l = length l.rest
