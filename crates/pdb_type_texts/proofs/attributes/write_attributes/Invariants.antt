use Rattle.std.proofs.Common.{◌≡◌, ◌++◌, length, reverse, string_bytes}
use Rattle.pdb_type_texts.specs.Attributes.{attributes_text}
use Rattle.pdb_type_texts.proofs.attributes.write_attributes.Given as goal

-- what is written, and what is left to write, are all that was to be written
abbrev pub invariant-loop-last : goal.invariant-loop-last
invariant-loop-last l =
    string_bytes l.text ++ attributes_text l.flags l.predecessor (reverse l.rest)
    ≡ string_bytes l.initial.text ++ attributes_text l.flags l.initial.predecessor (reverse l.attributes)

abbrev pub decreases-loop-last : goal.decreases-loop-last
decreases-loop-last l = length l.rest
