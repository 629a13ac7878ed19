-- The elements that were read, and those that are left.
use Rattle.std.proofs.Common.{List, ◌++◌, Result, Ok}
use Rattle.pdb_json_values.specs.RecordFault.{Fault, ◌>>=◌}

-- what is read after the elements in front
abbrev pub after : {X : Type 0} → List X → Result (List X) Fault → Result (List X) Fault
after front read = read >>= λ xs. Ok (front ++ xs)
