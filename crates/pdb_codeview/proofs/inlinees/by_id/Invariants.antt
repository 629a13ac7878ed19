-- The ids are those that were copied and those that are left.
use Rattle.std.proofs.Common.{◌≡◌, ◌++◌, drop, map}
use Rattle.pdb_codeview.specs.Inlinees.{inlinee}
use Rattle.pdb_codeview.proofs.inlinees.by_id.Given as goal

abbrev pub invariant-loop-entry : goal.invariant-loop-entry
invariant-loop-entry l = map inlinee l.listed ≡ l.ids.items ++ map inlinee (drop l.entry-index l.listed)
