-- What is written, and the calls that are left, are all that was to be written.
use Rattle.std.proofs.Common.{◌≡◌, ◌++◌, drop, map, string_bytes}
use Rattle.std.specs.Prelude.{◌==◌}
use Rattle.pdb_symbolication.specs.FrameTexts.{inlined_call}
use Rattle.pdb_symbolication.specs.JsonObjects.{separated}
use Rattle.pdb_symbolication.proofs.JsonLemmas.{left}
use Rattle.pdb_symbolication.proofs.frame_texts.push_calls.Given as goal

abbrev pub invariant-loop-number : goal.invariant-loop-number
invariant-loop-number l = string_bytes l.text ++ left (l.number == 0) (map inlined_call (drop l.number l.calls))
    ≡ string_bytes l.initial.text ++ separated (map inlined_call l.calls)
