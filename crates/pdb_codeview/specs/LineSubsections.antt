-- The subsection of lines (DEBUG_S_LINES): rows of offset, file and line for bytes of a section.
use Rattle.std.specs.Prelude.{ℕ, ◌-◌, ◌*◌, ◌%◌, ◌^◌, ◌==◌, ◌||◌, nat_lt, Bool, not, List, take, drop, length, filter}
use Rattle.std.specs.Prelude.{Some, None, Result, Ok, Err, if◌then◌else◌}
use Rattle.pdb_records.specs.Readings.{Read}
use Rattle.pdb_records.specs.declared.error.StreamError.{StreamError}
use Rattle.pdb_records.specs.declared.lines.FileIndex.{FileIndex}
use Rattle.pdb_records.specs.declared.lines.LineInfo.{LineInfo}
use Rattle.pdb_msf.specs.declared.faults.TheConstants.{BAD_LENGTH, CUT}
use Rattle.pdb_msf.specs.NumberLists.{number, two_byte_number}
use Rattle.pdb_msf.specs.Readings.{with_fault}
use Rattle.pdb_codeview.specs.declared.files.FileEntry.{FileEntry}
use Rattle.pdb_codeview.specs.declared.line_subsections.LineSubsection.{LineSubsection}
use Rattle.pdb_codeview.specs.AnnotationRows.{sum_of}
use Rattle.pdb_codeview.specs.InlineSites.{file_at}
use Rattle.pdb_msf.specs.ItemLists.{all_items, entry_list, concatenated}

-- a block of rows: the offset of its file's entry, the number of its rows, and the bytes of the rows
pub record BlockBytes : Type 0 where
  pub file : ℕ
  pub count : ℕ
  pub rows : List ℕ

-- cbBlock, at 8 of a block's header: the size of the block in bytes, with the header
abbrev pub block_size : List ℕ → ℕ
block_size front = number (drop 8 front)

-- the block with this header (CV_DebugSLinesFileBlockHeader_t: offFile, nLines at 4, and cbBlock) and these rows
abbrev pub block_of : List ℕ → List ℕ → BlockBytes
block_of front rows = record { file = number front; count = number (drop 4 front); rows = rows }

-- the block with this header before these bytes, and the bytes after it. It is `CUT` if the bytes end early, and
-- `BAD_LENGTH` if its size has no room for the twelve-byte header
abbrev pub block_with : List ℕ → List ℕ → Result (BlockBytes × List ℕ) StreamError
block_with front bytes =
    if nat_lt (block_size front) 12 then Err BAD_LENGTH else
    if nat_lt (length bytes) (block_size front - 12) then Err CUT else
    Ok (block_of front (take (block_size front - 12) bytes), drop (block_size front - 12) bytes)

-- the first block, and the bytes after it
abbrev pub first_block : List ℕ → Result (BlockBytes × List ℕ) StreamError
first_block bytes = if nat_lt (length bytes) 12 then Err CUT else block_with (take 12 bytes) (drop 12 bytes)

-- linenumStart: the line of a row, which is the lowest 24 bits of the number at 4
abbrev pub line_start : List ℕ → ℕ
line_start row = number (drop 4 row) % 2 ^ 24

-- whether a line number means no line. 0xfeefee marks code that a debugger always steps into, on its way to code with
-- lines; 0xf00f00 marks code that it never steps into
abbrev pub is_no_line : ℕ → Bool
is_no_line line = (line == 0xfeefee) || (line == 0xf00f00)

-- the row of these eight bytes (CV_Line_t), of a file, in code that starts at this offset; the row's own offset, at 0,
-- counts from there
abbrev pub line_row : FileIndex → ℕ → List ℕ → LineInfo
line_row file start row =
    record { offset = sum_of start (number row); file_index = file; line_start = line_start row }

-- the rows of a block with `count` rows; an incomplete row is `CUT`
unfoldable pub line_rows : FileIndex → ℕ → ℕ → List ℕ → Read LineInfo
line_rows file start count bytes =
    with_fault (if nat_lt (length bytes) (8 * count) then Some CUT else None)
    (entry_list (line_row file start) 8 (take (8 * count) bytes))

-- the rows of a block, by the module's files
abbrev pub block_rows : List FileEntry → ℕ → BlockBytes → Read LineInfo
block_rows files start block = line_rows (file_at files block.file) start block.count block.rows

-- the rows of several blocks in order, up to the first fault; a fault of the list of blocks comes last
abbrev pub rows_of_blocks : List FileEntry → ℕ → Read BlockBytes → Read LineInfo
rows_of_blocks files start blocks = with_fault blocks.fault (concatenated (block_rows files start) blocks.items)

-- the rows whose line number means a line
abbrev pub rows_of_lines : List LineInfo → List LineInfo
rows_of_lines rows = filter (λ row. not (is_no_line row.line_start)) rows

-- the rows of a subsection in code that starts at this offset, by the bytes after its header
abbrev pub subsection_rows : List FileEntry → ℕ → List ℕ → Read LineInfo
subsection_rows files start bytes = record {
  items = rows_of_lines (rows_of_blocks files start (all_items first_block bytes)).items;
  fault = (rows_of_blocks files start (all_items first_block bytes)).fault;
}

-- the subsection with this header (CV_DebugSLinesHeader_t: offCon, segCon at 4, flags, and cbCon at 8) and these blocks
abbrev pub subsection_of : List FileEntry → List ℕ → List ℕ → LineSubsection
subsection_of files front bytes = record {
  offset = record { section = two_byte_number (drop 4 front); offset = number front };
  size = number (drop 8 front);
  rows = subsection_rows files (number front) bytes;
}

-- a subsection of lines, by the module's files; its header has twelve bytes
abbrev pub line_subsection : List FileEntry → List ℕ → Result LineSubsection StreamError
line_subsection files bytes =
    if nat_lt (length bytes) 12 then Err CUT else Ok (subsection_of files (take 12 bytes) (drop 12 bytes))
