-- A file's position is known, or that of the first among the starts that are left.
use Rattle.std.proofs.Common.{◌≡◌, ℕ, drop}
use Rattle.std.specs.Prelude.{◌==◌}
use Rattle.std.specs.BTreeMap.{get}
use Rattle.std.specs.List.{position_from}
use Rattle.std.specs.Option.{option_or}
use Rattle.std.specs.Ordering.{nat_cmp}
use Rattle.pdb_codeview.specs.Files.{file_position}
use Rattle.pdb_codeview.proofs.files.first_positions.Given as goal

abbrev pub invariant-loop-position : goal.invariant-loop-position
invariant-loop-position l = (asked : ℕ)
    → option_or (get nat_cmp l.positions asked)
    (position_from (λ entry. entry.start == asked) l.position (drop l.position l.entries))
    ≡ file_position asked l.entries
