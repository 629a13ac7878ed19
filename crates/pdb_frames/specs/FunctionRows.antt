-- The cached line rows of a function, which are binary-searched.
use Rattle.std.specs.Prelude.{ℕ, List, Option, Result, Ok}
use Rattle.std.specs.Ordering.{nat_cmp}
use Rattle.pdb_records.specs.Readings.{Read}
use Rattle.pdb_records.specs.declared.lines.LineInfo.{LineInfo}
use Rattle.pdb_tables.specs.Keyed.{KeysAscend}
use Rattle.pdb_errors.specs.Outcomes.{and_then}
use Rattle.pdb_errors.specs.declared.error.Error.{Error}
use Rattle.pdb_frames.specs.Lines.{read_whole, row_over}

-- the offsets of the rows ascend, without duplicates
abbrev pub OffsetsAscend : List LineInfo → Type 0
OffsetsAscend rows = KeysAscend nat_cmp (λ row. row.offset) rows

-- the row at an offset; an error if the list of rows has a fault
abbrev pub row_in : Read LineInfo → ℕ → Result (Option LineInfo) Error
row_in rows x = and_then (read_whole rows) (λ whole. Ok (row_over whole x))
