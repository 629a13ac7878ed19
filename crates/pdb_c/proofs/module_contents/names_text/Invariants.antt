-- The text so far, with that of the names that are left, is the whole text.
use Rattle.std.proofs.Common.{◌≡◌, ◌++◌, drop, map, string_bytes}
use Rattle.pdb_c.specs.ModuleContents.{names_text}
use Rattle.pdb_c.proofs.module_contents.names_text.Given as goal

abbrev pub invariant-loop-name : goal.invariant-loop-name
invariant-loop-name l =
    l.text.items ++ names_text (map string_bytes (drop l.name-index l.names)) ≡ names_text (map string_bytes l.names)
