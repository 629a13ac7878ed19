-- How deeply values may still nest, and how many calls lead to the next level; what is left of a text is expanded after
-- what was expanded.
use Rattle.std.proofs.Common.{◌≡◌, ◌+◌, ◌*◌, ◌-◌, [], length}
use Rattle.pdb_source_urls.specs.Expansion.{expand, expand_from, given, value_seen}
use Rattle.pdb_source_urls.proofs.expansion.+expansion.Given as goal

abbrev pub decreases-expand : goal.decreases-expand
decreases-expand l = 5 * l.depth

abbrev pub decreases-next : goal.decreases-next
decreases-next l = 5 * l.depth + 4

abbrev pub decreases-part_at : goal.decreases-part_at
decreases-part_at l = 5 * l.depth + 3

abbrev pub decreases-call : goal.decreases-call
decreases-call l = 5 * l.depth + 2

abbrev pub decreases-value_of : goal.decreases-value_of
decreases-value_of l = 5 * l.depth + 1

abbrev pub invariant-expand-loop-step : goal.invariant-expand-loop-step
invariant-expand-loop-step l =
    expand_from (expand (l.depth - 1) (given l.sources)) (given l.sources) (length l.text - l._step) l.rest
    (value_seen l.done)
    ≡ expand_from (expand (l.depth - 1) (given l.sources)) (given l.sources) (length l.text) l.text
    (record { text = []; used = l.used })
