use Rattle.pdb_tables.proofs.MissingRunLemmas.{IsRunsFrom-missing_runs, has-missing_runs}
use Rattle.pdb_tables.proofs.table_laws.missing_runs_hold_what_is_missing.Goals as goal

pub returns-clause-maximal : goal.returns-clause-maximal
returns-clause-maximal c = IsRunsFrom-missing_runs

pub returns-clause-numbers : goal.returns-clause-numbers
returns-clause-numbers c = has-missing_runs
