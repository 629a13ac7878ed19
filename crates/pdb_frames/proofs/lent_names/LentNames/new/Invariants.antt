use Rattle.pdb_frames.specs.FileNames.{Strings, KnowsNames, AreLent}
use Rattle.pdb_frames.proofs.lent_names.LentNames.new.Given as goal

-- names that are lent so far are those under their numbers
abbrev pub invariant-loop-reference : goal.invariant-loop-reference
invariant-loop-reference l = (strings : Strings) → KnowsNames strings l.names → AreLent strings l.lent.slots.items
