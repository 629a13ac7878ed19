-- The stacks that were read, and those that are left, say what the array does.
use Rattle.std.proofs.Common.{◌≡◌, drop, map}
use Rattle.serde_json.specs.View.{items_view}
use Rattle.pdb_symbolication.specs.RequestValues.{elements_from, stack_of, stack_seen}
use Rattle.pdb_symbolication.proofs.RequestLemmas.{after}
use Rattle.pdb_symbolication.proofs.request_reader.stacks_of.Given as goal

abbrev pub invariant-loop-number : goal.invariant-loop-number
invariant-loop-number l =
    elements_from 0 (stack_of l.modules) (items_view l.values) ≡ after (map stack_seen l.stacks.items)
    (elements_from l.number (stack_of l.modules) (items_view (drop l.number l.values)))
