use Rattle.pdb_frames.specs.FileNames.{Strings, AreLent}
use Rattle.pdb_frames.proofs.lent_names.no_names.Given as goal

-- no slot so far has a name that isn't lent
abbrev pub invariant-loop : goal.invariant-loop
invariant-loop l = (strings : Strings) → AreLent strings l.slots.items
