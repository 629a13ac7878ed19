use Rattle.std.proofs.Common.{◌≡◌, ◌+◌, ◌++◌, drop}
use Rattle.pdb_functions.specs.CodeSections.{section_ends, section_ends_from}
use Rattle.pdb_functions.proofs.code_sections.executable_section_ends.Given as goal

-- the ends so far, and those of what is left, are the ends of all
abbrev pub invariant-loop-index : goal.invariant-loop-index
invariant-loop-index l = l.ends.items ++ section_ends_from (l.index + 1) (drop l.index l.sections)
    ≡ section_ends l.sections
