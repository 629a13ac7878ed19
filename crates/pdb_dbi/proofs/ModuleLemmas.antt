-- The front of a module.
use Rattle.std.proofs.Common.{◌≡◌, ℕ, ◌<◌, List, [], drop, length, Err, arith}
use Rattle.std.proofs.lemmas.List.{drop_all}
use Rattle.pdb_msf.specs.declared.faults.TheConstants.{CUT}
use Rattle.pdb_dbi.specs.ModuleSubstream.{first_module}

-- bytes that are too few for a module's front are none
pub no_front : (bytes : List ℕ) → length bytes < 64 → first_module bytes ≡ Err CUT
no_front bytes short =
    let gone : drop 64 bytes ≡ [] = drop_all 64 bytes (omega arith) in
    simp gone
