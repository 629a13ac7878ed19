-- A plain reader of the text of a Breakpad symbol file: line by line, and each line by its words. Its definition
-- doesn't depend on how the text is written.
use Rattle.std.specs.Prelude.{ℕ, List, [], ◌∷◌, map, Bool, true, false, ◌&&◌, nat_lt, ◌==◌, codes, if◌then◌else◌}
use Rattle.std.specs.Char.{digit_value}
use Rattle.std.specs.Str.{bytes_eq}
use Rattle.std.specs.Str.Parse.{digits_value}

-- the record of a line
pub data SymbolLine : Type 0 where
  -- the number of a source file
  File : (number : ℕ) (name : List ℕ) → SymbolLine
  -- the number of an inlined function's name
  InlineOrigin : (number : ℕ) (name : List ℕ) → SymbolLine
  -- a function from `start` on, with `size` addresses
  Func : (start size : ℕ) (name : List ℕ) → SymbolLine
  -- a function of which only the start is known
  Public : (start : ℕ) (name : List ℕ) → SymbolLine
  -- an inlined call from this line of a file, with `level` calls outside it, of the function with the number `origin`
  Inline : (level line file origin start size : ℕ) → SymbolLine
  -- code from this line of a file
  CodeLine : (start size line file : ℕ) → SymbolLine
  -- a line with another record
  OtherLine : SymbolLine

-- lines with one more byte at their start; without lines it is a line of its own
abbrev pub in_front_of : ℕ → List (List ℕ) → List (List ℕ)
in_front_of byte [] = (byte ∷ []) ∷ []
in_front_of byte (line ∷ lines) = (byte ∷ line) ∷ lines

-- the lines of a text, without the line breaks at their ends; the last one may have none
abbrev pub lines : List ℕ → List (List ℕ)
lines [] = []
lines (byte ∷ bytes) = if byte == 10 then [] ∷ lines bytes else in_front_of byte (lines bytes)

-- the first word of a line: the text before its first space
abbrev pub first_word : List ℕ → List ℕ
first_word [] = []
first_word (byte ∷ bytes) = if byte == 32 then [] else byte ∷ first_word bytes

-- the rest of a line: the text after its first space
abbrev pub rest_of : List ℕ → List ℕ
rest_of [] = []
rest_of (byte ∷ bytes) = if byte == 32 then bytes else rest_of bytes

-- whether each byte is a digit in a base; the letters from a to f may be small or capital
abbrev pub are_digits : ℕ → List ℕ → Bool
are_digits base [] = true
are_digits base (byte ∷ bytes) = nat_lt (digit_value byte) base && are_digits base bytes

-- whether a word is a number in a base: it has digits, and nothing else
abbrev pub is_number : ℕ → List ℕ → Bool
is_number base [] = false
is_number base (byte ∷ bytes) = are_digits base (byte ∷ bytes)

-- the record of a line that continues with a number, a space and more, by the number and the text after the space. If
-- the next word is no number, it is another record
unfoldable pub number_and_more : ℕ → List ℕ → (ℕ → List ℕ → SymbolLine) → SymbolLine
number_and_more base text says =
    if is_number base (first_word text) then says (digits_value base (first_word text)) (rest_of text) else OtherLine

-- the record of a line that ends with a number. Without a number it is another record
unfoldable pub number_at_end : ℕ → List ℕ → (ℕ → SymbolLine) → SymbolLine
number_at_end base text says = if is_number base text then says (digits_value base text) else OtherLine

-- `NUMBER NAME` after `FILE`
abbrev pub read_file : List ℕ → SymbolLine
read_file text = number_and_more 10 text λ number name. File number name

-- `NUMBER NAME` after `INLINE_ORIGIN`
abbrev pub read_origin : List ℕ → SymbolLine
read_origin text = number_and_more 10 text λ number name. InlineOrigin number name

-- `START SIZE PARAMETERS NAME` after `FUNC`, with the numbers in hexadecimal digits
abbrev pub read_func : List ℕ → SymbolLine
read_func text =
    number_and_more 16 text λ start text.
    number_and_more 16 text λ size text.
    number_and_more 16 text λ parameters name. Func start size name

-- `START PARAMETERS NAME` after `PUBLIC`, with the numbers in hexadecimal digits
abbrev pub read_public : List ℕ → SymbolLine
read_public text =
    number_and_more 16 text λ start text.
    number_and_more 16 text λ parameters name. Public start name

-- `LEVEL LINE FILE ORIGIN START SIZE` after `INLINE`, with the last two in hexadecimal digits
abbrev pub read_inline : List ℕ → SymbolLine
read_inline text =
    number_and_more 10 text λ level text.
    number_and_more 10 text λ line text.
    number_and_more 10 text λ file text.
    number_and_more 10 text λ origin text.
    number_and_more 16 text λ start text.
    number_at_end 16 text λ size. Inline level line file origin start size

-- `START SIZE LINE FILE`, with the first two in hexadecimal digits
abbrev pub read_code_line : List ℕ → SymbolLine
read_code_line text =
    number_and_more 16 text λ start text.
    number_and_more 16 text λ size text.
    number_and_more 10 text λ line text.
    number_at_end 10 text λ file. CodeLine start size line file

-- whether the first word of a line is this one
abbrev pub begins_with : List ℕ → List ℕ → Bool
begins_with line word = bytes_eq (first_word line) word

-- the record of a line by its first word; a line with another first word may be one of four numbers
unfoldable pub read_line : List ℕ → SymbolLine
read_line line =
    if begins_with line (codes "FILE") then read_file (rest_of line) else
    (if begins_with line (codes "INLINE_ORIGIN") then read_origin (rest_of line) else
    (if begins_with line (codes "FUNC") then read_func (rest_of line) else
    (if begins_with line (codes "PUBLIC") then read_public (rest_of line) else
    (if begins_with line (codes "INLINE") then read_inline (rest_of line) else read_code_line line))))

-- the records of a text, line by line
unfoldable pub read_text : List ℕ → List SymbolLine
read_text text = map read_line (lines text)
