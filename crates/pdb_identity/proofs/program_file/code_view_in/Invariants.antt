-- The entries so far name no CodeView record.
use Rattle.std.proofs.Common.{◌≡◌, drop}
use Rattle.pdb_identity.specs.Programs.{code_view_in}
use Rattle.pdb_identity.proofs.program_file.code_view_in.Given as goal

abbrev pub invariant-loop-entry : goal.invariant-loop-entry
invariant-loop-entry l = code_view_in l.image l.entries ≡ code_view_in l.image (drop l.entry-index l.entries)
