use Rattle.std.proofs.Common.{◌≡◌, ◌++◌, length, string_bytes}
use Rattle.pdb_type_texts.specs.Wording.{dimensions_text}
use Rattle.pdb_type_texts.proofs.dimensions.write_dimensions.Given as goal

-- what is written, and what is left to write, are all that was to be written
abbrev pub invariant-loop-level : goal.invariant-loop-level
invariant-loop-level l =
    string_bytes l.text ++ dimensions_text l.rest l.base ≡ string_bytes l.initial.text
    ++ dimensions_text l.levels l.base

abbrev pub decreases-loop-level : goal.decreases-loop-level
decreases-loop-level l = length l.rest
