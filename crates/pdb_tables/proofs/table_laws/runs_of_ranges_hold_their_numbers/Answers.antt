use Rattle.pdb_tables.proofs.MissingRunLemmas.{IsRunsFrom-runs_of, has-runs_of}
use Rattle.pdb_tables.proofs.table_laws.runs_of_ranges_hold_their_numbers.Goals as goal

pub returns-clause-maximal : goal.returns-clause-maximal
returns-clause-maximal c = IsRunsFrom-runs_of

pub returns-clause-numbers : goal.returns-clause-numbers
returns-clause-numbers c = has-runs_of
