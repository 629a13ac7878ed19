-- All code of the modules so far has a name.
use Rattle.std.proofs.Common.{All, take}
use Rattle.pdb_session.specs.FileParts.{HasNames}
use Rattle.pdb_session.proofs.module_reads.has_any_unnamed_code.Given as goal

abbrev pub invariant-loop-read : goal.invariant-loop-read
invariant-loop-read l = All HasNames (take l.read-index l.modules)
