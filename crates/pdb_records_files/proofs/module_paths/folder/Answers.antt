use Rattle.std.proofs.Common.{arith, rules}
use Rattle.pdb_records_files.proofs.PathLemmas.{split_at_last}
use Rattle.pdb_records_files.specs.ModulePaths.{folder_of}
use Rattle.pdb_records_files.proofs.module_paths.folder.Goals as goal

pub returns-in-Some : goal.returns-in-Some
unfolding folder_of
returns-in-Some c =
    let split = split_at_last 47 c.args.path.now _ c.rsplit_once.ensures.cases (omega arith) in
    rw (← split) (grind rules)

pub returns-in-None : goal.returns-in-None
unfolding folder_of
returns-in-None c =
    let split = split_at_last 47 c.args.path.now _ c.rsplit_once.ensures.cases (omega arith) in
    rw (← split) (grind rules)
