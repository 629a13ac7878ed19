use Rattle.std.proofs.Common.{◌+◌, ◌-◌, ◌≤◌, length}
use Rattle.std.specs.List.{position_or_len}
use Rattle.pdb_tables.specs.Keyed.{is_above}
use Rattle.pdb_tables.specs.Probes.{digits}
use Rattle.pdb_tables.proofs.search.neighbours_of.Given as goal

-- the first entry above the key lies in the window or right behind it, and the probes so far and the digits of its
-- size are no more than those of the list
abbrev pub invariant-loop-from : goal.invariant-loop-from
invariant-loop-from g l =
    let above = is_above g.T.Key.Ord.cmp g.T.Keyed.key_of l.key in
    record {
      from_on : l.from ≤ position_or_len above l.entries;
      up_to : position_or_len above l.entries ≤ l.to;
      to_end : l.to ≤ length l.entries;
      no_fewer : l.initial.probes ≤ l.probes;
      few : l.probes + digits (l.to - l.from) ≤ l.initial.probes + digits (length l.entries);
    }

abbrev pub decreases-loop-from : goal.decreases-loop-from
decreases-loop-from g l = l.to - l.from
