use Rattle.std.proofs.Common.{◌≡◌, drop}
use Rattle.pdb_records.specs.Lines.{lines_at}
use Rattle.pdb_records.proofs.lines.LineProgram.lines_for_symbol.Given as goal

-- what is left of the entries gives the answer of all
abbrev pub invariant-loop-entry : goal.invariant-loop-entry
invariant-loop-entry l = lines_at l.offset l.self.entries ≡ lines_at l.offset (drop l.entry-index l.entry-items)
