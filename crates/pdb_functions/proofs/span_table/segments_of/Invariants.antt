use Rattle.std.proofs.Common.{◌≡◌, ◌^◌, ◌<◌, drop, length}
use Rattle.std.specs.Prelude.{None, slice_get, option_and_then}
use Rattle.pdb_records.specs.declared.addresses.PdbInternalSectionOffset.{PdbInternalSectionOffset}
use Rattle.pdb_tables.specs.Segments.{painted_in_turn}
use Rattle.pdb_functions.specs.Keys.{key}
use Rattle.pdb_tables.specs.Last.{last_over}
use Rattle.pdb_functions.proofs.span_table.segments_of.Given as goal

-- what the segments so far give a section offset, or else the last of what is left over it, is the last of all
abbrev pub invariant-loop-position : goal.invariant-loop-position
invariant-loop-position g l = record {
  values : (section_offset : PdbInternalSectionOffset) → section_offset.offset < 2 ^ 32
      → last_over (g.T.Span.is_over section_offset)
      (option_and_then (slice_get l.spans) (painted_in_turn l.segments.items None (key section_offset)))
      (drop l.position l.spans)
      ≡ last_over (g.T.Span.is_over section_offset) None l.spans;
  count : length l.segments.items ≡ l.position;
}
