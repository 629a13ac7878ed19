-- The walk came up to the piece at the position.
use Rattle.std.proofs.Common.{get_or, ◌^◌}
use Rattle.pdb_breakpad.specs.FrameSource.{KeepsAnswers}
use Rattle.pdb_breakpad.specs.FunctionWalk.{IsWalked}
use Rattle.pdb_breakpad.specs.NumberedCode.{KeepsAllNames}
use Rattle.pdb_breakpad.proofs.function_walk.write_functions.Given as goal

abbrev pub invariant-loop-position : goal.invariant-loop-position
invariant-loop-position g l =
    let answers = g.S.FrameSource.answers in
    record {
      walked : IsWalked l.parameters answers l.fn.source l.numbers (get_or l.points l.position (2 ^ 32)) l.walked
          (g.W.Write.contents l.fn.out) (g.W.Write.contents l.out);
      names : KeepsAllNames l.fn.numbers l.numbers;
      inputs : KeepsAnswers answers l.fn.source l.source;
    }
