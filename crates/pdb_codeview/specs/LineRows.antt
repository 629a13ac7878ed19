-- The line rows of a subsection, and those of a procedure in it.
use Rattle.std.specs.Prelude.{ℕ, nat_lt, List, [], ◌∷◌, reverse}
use Rattle.pdb_records.specs.declared.lines.LineInfo.{LineInfo}
use Rattle.pdb_codeview.specs.Places.{first_of_each_place, from_last, front}

-- the rows sorted by offset, without empty ones: of several rows at one offset the last one read counts, since the
-- others end where it begins
abbrev pub rows_with_bytes : List LineInfo → List LineInfo
rows_with_bytes rows = first_of_each_place (λ row. row.offset) (reverse rows)

-- the rows, with the start of the first one moved to an offset
abbrev pub begun_at : ℕ → List LineInfo → List LineInfo
begun_at start [] = []
begun_at start (row ∷ rows) = record row { offset = start } ∷ rows

-- the rows from an offset on, of rows sorted by offset. The last row at or before the offset is moved to start there;
-- without such a row, the first row is
abbrev pub rows_from : ℕ → List LineInfo → List LineInfo
rows_from start rows = begun_at start (from_last (λ row. row.offset) start rows)

-- the rows from an offset up to another
abbrev pub rows_between : ℕ → ℕ → List LineInfo → List LineInfo
rows_between start end rows = front (λ row. nat_lt row.offset end) (rows_from start rows)
