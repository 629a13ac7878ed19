use Rattle.pdb_tables.proofs.MissingRunLemmas.{IsRunsFrom-missing_runs, has-missing_runs}
use Rattle.pdb_inline.proofs.inline_range_laws.added_ranges_are_of_maximal_runs.Goals as goal

pub returns-clause-maximal : goal.returns-clause-maximal
returns-clause-maximal c = search IsRunsFrom-missing_runs

pub returns-clause-numbers : goal.returns-clause-numbers
returns-clause-numbers c = search has-missing_runs
