-- The calls so far stand for those between the frames so far, and names keep their numbers.
use Rattle.std.proofs.Common.{map, take}
use Rattle.pdb_breakpad.specs.ShownNames.{frame_text}
use Rattle.pdb_breakpad.specs.NumberedCode.{AreCalls, KeepsAllNames}
use Rattle.pdb_breakpad.specs.ShownFrames.{calls_in}
use Rattle.pdb_breakpad.proofs.numbered_code.number_calls.Given as goal

abbrev pub invariant-loop-level : goal.invariant-loop-level
invariant-loop-level l = AreCalls l.numbers l.calls.items (take l.level (calls_in (map frame_text l.frames)))
    × KeepsAllNames l.initial.numbers l.numbers
