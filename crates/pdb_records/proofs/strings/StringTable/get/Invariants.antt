use Rattle.std.proofs.Common.{◌≡◌, drop}
use Rattle.pdb_records.specs.Strings.{string_at}
use Rattle.pdb_records.proofs.strings.StringTable.get.Given as goal

-- what is left of the texts gives the answer of all
abbrev pub invariant-loop-key : goal.invariant-loop-key
invariant-loop-key l = string_at l.reference l.self ≡ string_at l.reference (drop l.key-index l.key-items)
