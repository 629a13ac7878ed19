-- What is written are the characters so far.
use Rattle.std.proofs.Common.{◌≡◌, ◌++◌, string_bytes}
use Rattle.std.specs.List.{flat_map}
use Rattle.pdb_breakpad.specs.FunctionTexts.{name_character}
use Rattle.pdb_breakpad.proofs.name_text.push_line_text.Given as goal

abbrev pub invariant-loop-character : goal.invariant-loop-character
invariant-loop-character l =
    string_bytes l.text ≡ string_bytes l.initial.text ++ flat_map name_character l.yielded
