-- The addresses are those that were listed and those of the sections that are left.
use Rattle.std.proofs.Common.{◌≡◌, ◌++◌, drop}
use Rattle.pdb_dbi.specs.SectionHeaders.{loaded_at}
use Rattle.pdb_dbi.proofs.section_headers.map_addresses.Given as goal

abbrev pub invariant-loop-section : goal.invariant-loop-section
invariant-loop-section l = loaded_at l.sections ≡ l.ranges.items ++ loaded_at (drop l.section-index l.sections)
