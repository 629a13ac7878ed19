-- The field is in the rest of the line, with so many fewer fields before it.
use Rattle.std.proofs.Common.{◌≡◌, ◌-◌}
use Rattle.pdb_source_urls.specs.Expansion.{field}
use Rattle.pdb_source_urls.proofs.expansion.field.Given as goal

abbrev pub invariant-loop-field : goal.invariant-loop-field
invariant-loop-field l = field (l.before - l._field) l.rest ≡ field l.before l.line
