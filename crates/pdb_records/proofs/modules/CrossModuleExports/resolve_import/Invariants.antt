use Rattle.std.proofs.Common.{◌≡◌, drop}
use Rattle.pdb_records.specs.References.{exported}
use Rattle.pdb_records.proofs.modules.CrossModuleExports.resolve_import.Given as goal

-- what is left of the exports gives the answer of all
abbrev pub invariant-loop-number : goal.invariant-loop-number
invariant-loop-number l = exported l.local l.self ≡ exported l.local (drop l.number-index l.number-items)
