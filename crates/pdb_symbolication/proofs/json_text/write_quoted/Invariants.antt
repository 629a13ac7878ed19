-- What is written, after the quotation mark, are the characters so far.
use Rattle.std.proofs.Common.{◌≡◌, ◌++◌, string_bytes}
use Rattle.std.specs.List.{flat_map}
use Rattle.pdb_symbolication.specs.JsonTexts.{quoted_character}
use Rattle.pdb_symbolication.proofs.json_text.write_quoted.Given as goal

abbrev pub invariant-loop-character : goal.invariant-loop-character
invariant-loop-character l =
    string_bytes l.out ≡ string_bytes l.initial.out ++ flat_map quoted_character l.yielded
