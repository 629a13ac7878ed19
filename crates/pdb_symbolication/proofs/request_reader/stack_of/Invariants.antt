-- The frames that were read, and those that are left, say what the array does.
use Rattle.std.proofs.Common.{◌≡◌, drop}
use Rattle.serde_json.specs.View.{items_view}
use Rattle.pdb_symbolication.specs.RequestValues.{elements_from, frame_of}
use Rattle.pdb_symbolication.proofs.RequestLemmas.{after}
use Rattle.pdb_symbolication.proofs.request_reader.stack_of.Given as goal

abbrev pub invariant-loop-number : goal.invariant-loop-number
invariant-loop-number l =
    elements_from 0 (frame_of l.modules) (items_view l.values)
    ≡ after l.frames.items (elements_from l.number (frame_of l.modules) (items_view (drop l.number l.values)))
