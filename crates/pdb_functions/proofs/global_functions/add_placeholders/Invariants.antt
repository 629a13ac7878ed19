use Rattle.std.proofs.Common.{◌≡◌, ◌++◌, map, drop}
use Rattle.pdb_functions.specs.GlobalFunctions.{global_function, placeholder}
use Rattle.pdb_functions.proofs.global_functions.add_placeholders.Given as goal

-- what is there, and the placeholders of what is left, is what was there and all placeholders
abbrev pub invariant-loop-start : goal.invariant-loop-start
invariant-loop-start l = map global_function l.functions.items ++ map placeholder (drop l.start-index l.starts)
    ≡ map global_function l.initial.functions.items ++ map placeholder l.starts
