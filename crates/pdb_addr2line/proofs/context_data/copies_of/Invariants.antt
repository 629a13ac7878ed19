use Rattle.std.proofs.Common.{◌≡◌, ◌++◌, drop}
use Rattle.pdb_addr2line.proofs.context_data.copies_of.Given as goal

-- the copies so far, and what is left, are the list
abbrev pub invariant-loop-module : goal.invariant-loop-module
invariant-loop-module l = l.copies.items ++ drop l.module-index l.modules ≡ l.modules
