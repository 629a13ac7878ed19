-- Rows of lines whose bytes end early.
use Rattle.std.proofs.Common.{◌≡◌, ℕ, ◌*◌, ◌<◌, true, List, take, length, Some, arith}
use Rattle.std.specs.Prelude.{nat_lt}
use Rattle.std.proofs.lemmas.Grind.{common_steps}
use Rattle.std.proofs.lemmas.List.{take_all}
use Rattle.pdb_records.specs.declared.lines.FileIndex.{FileIndex}
use Rattle.pdb_msf.specs.declared.faults.TheConstants.{CUT}
use Rattle.pdb_msf.specs.ItemLists.{entry_list}
use Rattle.pdb_msf.specs.Readings.{with_fault}
use Rattle.pdb_codeview.specs.LineSubsections.{line_row, line_rows}

-- too few bytes are as many rows as they have
pub rows_cut : (file : FileIndex) (start count : ℕ) (bytes : List ℕ) → length bytes < 8 * count
    → line_rows file start count bytes ≡ with_fault (Some CUT) (entry_list (line_row file start) 8 bytes)
unfolding line_rows
rows_cut file start count bytes short =
    let all : take (8 * count) bytes ≡ bytes = take_all (8 * count) bytes (omega arith) in
    let ends : nat_lt (length bytes) (8 * count) ≡ true = grind (arith, common_steps) in
    simp (all, ends)
