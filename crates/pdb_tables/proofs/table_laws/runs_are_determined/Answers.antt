use Rattle.pdb_tables.proofs.SameRuns.{same_runs}
use Rattle.pdb_tables.proofs.table_laws.runs_are_determined.Goals as goal

pub returns : goal.returns
returns c = same_runs
