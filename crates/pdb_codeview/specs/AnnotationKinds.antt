-- Kinds of binary annotations, by their published numbers (BA_OP_.. of cvinfo.h).
use Rattle.std.specs.Prelude.{ℕ}

-- ends the list
abbrev pub ba_op_invalid : ℕ
ba_op_invalid = 0

-- moves the code offset, counted from the function's start
abbrev pub ba_op_code_offset : ℕ
ba_op_code_offset = 1

-- changes to another chunk of the function's code
abbrev pub ba_op_change_code_offset_base : ℕ
ba_op_change_code_offset_base = 2

-- advances the code offset, and starts a row there
abbrev pub ba_op_change_code_offset : ℕ
ba_op_change_code_offset = 3

-- sets the length of the last row
abbrev pub ba_op_change_code_length : ℕ
ba_op_change_code_length = 4

-- sets the file of the following rows
abbrev pub ba_op_change_file : ℕ
ba_op_change_file = 5

-- changes the line
abbrev pub ba_op_change_line_offset : ℕ
ba_op_change_line_offset = 6

-- where the lines of a row end
abbrev pub ba_op_change_line_end_delta : ℕ
ba_op_change_line_end_delta = 7

-- where the columns of a row end, from where they start
abbrev pub ba_op_change_column_end_delta : ℕ
ba_op_change_column_end_delta = 10

-- advances the code offset and changes the line, and starts a row
abbrev pub ba_op_change_code_offset_and_line_offset : ℕ
ba_op_change_code_offset_and_line_offset = 11

-- starts a row with this length, after advancing the code offset
abbrev pub ba_op_change_code_length_and_code_offset : ℕ
ba_op_change_code_length_and_code_offset = 12

-- where the columns of a row end
abbrev pub ba_op_change_column_end : ℕ
ba_op_change_column_end = 13
