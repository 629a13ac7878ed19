-- Parses a line of standard input or an argument as a request.
use Rattle.std.specs.Prelude.{ℕ, List, [], ◌∷◌, length, Option, Some, None, codes, ◌==◌, nat_lt, if◌then◌else◌}
use Rattle.std.specs.Char.{is_whitespace, is_ascii_digit}
use Rattle.std.specs.List.{position_or_len, before_first, after_first, before_last, after_last}
use Rattle.std.specs.Str.{chars, encode_utf8_all, trim_start, skip_leading_whitespace}
use Rattle.pdb_answer_printer.specs.InputNumbers.{after_prefix, address_of}
use Rattle.pdb_answer_printer.specs.InputLine.{Question, Target, AtAddress, OfSymbol, AtNone}
use Rattle.pdb_answer_printer.specs.declared.printer_options.Digits.{Digits}
use Rattle.pdb_answer_printer.specs.declared.printer_options.Digits.TheVariants.{ByPrefix}
use Rattle.pdb_answer_printer.specs.declared.input_line.Lack.{Lack}
use Rattle.pdb_answer_printer.specs.declared.input_line.Lack.TheVariants as lack
use Rattle.pdb_answer_printer.specs.declared.input_line.Sort.{Sort}
use Rattle.pdb_answer_printer.specs.declared.input_line.Sort.TheVariants.{Code, Data, Frame}

-- a parsed front part of a text, and the rest of the text
pub record Cut (X : Type 0) : Type 0 where
  pub front : X
  pub rest : List ℕ

-- the sort of a request by its keyword: `DATA ` for data, `FRAME ` for a function's variables, `CODE ` or no keyword
-- for code
abbrev pub sort_by : Option (List ℕ) → Option (List ℕ) → Option (List ℕ) → List ℕ → Cut Sort
sort_by (Some rest) frames values text = record { front = Code; rest = rest }
sort_by None (Some rest) values text = record { front = Frame; rest = rest }
sort_by None None (Some rest) text = record { front = Data; rest = rest }
sort_by None None None text = record { front = Code; rest = text }

-- the sort of request at the start of a text, and the rest
abbrev pub sort_of : List ℕ → Cut Sort
sort_of text =
    sort_by (after_prefix (codes "CODE ") text) (after_prefix (codes "FRAME ") text)
    (after_prefix (codes "DATA ") text) text

-- the part of a text before the first occurrence of a byte, and the rest after it; the whole text if there is none
abbrev pub cut_at : ℕ → List ℕ → Cut (List ℕ)
cut_at stop text =
    record { front = before_first (λ byte. byte == stop) text; rest = after_first (λ byte. byte == stop) text }

-- a quoted text up to its closing mark, given the text after the opening one; empty if the closing mark is missing
abbrev pub cut_quoted : ℕ → List ℕ → Cut (List ℕ)
cut_quoted mark text =
    if nat_lt (position_or_len (λ byte. byte == mark) text) (length text) then cut_at mark text
    else record { front = []; rest = [] }

-- a file name in double or single quotation marks, or up to the first space, and the rest
abbrev pub file_by : Option (List ℕ) → Option (List ℕ) → List ℕ → Cut (List ℕ)
file_by (Some quoted) other text = cut_quoted 34 quoted
file_by None (Some quoted) text = cut_quoted 39 quoted
file_by None None text = cut_at 32 text

-- the file name at the start of a text, and the rest
abbrev pub named_file : List ℕ → Cut (List ℕ)
named_file text = file_by (after_prefix (codes "\"") text) (after_prefix (codes "'") text) text

-- the file name at the start of a text, which may have `FILE:` and white space before it, and the rest
abbrev pub split_by : Option (List ℕ) → List ℕ → Cut (List ℕ)
split_by (Some rest) text = named_file (trim_start rest)
split_by None text = named_file text

-- the file name in a line, and the rest
abbrev pub split_file : List ℕ → Cut (List ℕ)
split_file text = split_by (after_prefix (codes "FILE:") text) text

-- the characters before the first white space
abbrev pub word_characters : List ℕ → List ℕ
word_characters [] = []
word_characters (character ∷ characters) =
    if is_whitespace character then [] else character ∷ word_characters characters

-- the first word of a text, without the white space around it; empty if the text is only white space
abbrev pub first_word : List ℕ → List ℕ
first_word text = encode_utf8_all (word_characters (skip_leading_whitespace (chars text)))

-- the symbol in a word: the part before the last plus sign if it isn't empty and a number follows the sign, otherwise
-- the whole word
abbrev pub symbol_by : List ℕ → Option ℕ → List ℕ → List ℕ
symbol_by [] offset word = word
symbol_by (byte ∷ symbol) None word = word
symbol_by (byte ∷ symbol) (Some offset) word = byte ∷ symbol

-- the symbol in a word, without an offset after a plus sign
abbrev pub symbol_of : List ℕ → List ℕ
symbol_of word = symbol_by (before_last (λ byte. byte == 43) word)
    (address_of (after_last (λ byte. byte == 43) word) ByPrefix) word

-- the target of a word: its number as an address; nothing for an empty word or a malformed number; otherwise a symbol
abbrev pub word_target_by : Option ℕ → List ℕ → Target
word_target_by (Some address) word = AtAddress address
word_target_by None [] = AtNone lack.Address
word_target_by None (byte ∷ word) =
    if is_ascii_digit byte then AtNone lack.Number else OfSymbol (symbol_of (byte ∷ word))

-- the target of a word, with numbers read in this way
abbrev pub word_target : List ℕ → Digits → Target
word_target word digits = word_target_by (address_of word digits) word

-- a request that asks for nothing, since the text lacks this
abbrev pub lacking : Lack → Question
lacking missing = record { sort = Code; file = []; target = AtNone missing }

-- the request by its file and the text after the file; without a file name it asks for nothing
abbrev pub request_in : Sort → List ℕ → List ℕ → Digits → Question
request_in sort [] rest digits = lacking lack.File
request_in sort (byte ∷ file) rest digits =
    record { sort = sort; file = byte ∷ file; target = word_target (first_word rest) digits }

-- the file of a request and the text after it; the text names the file if none is given
abbrev pub file_of_text : Option (List ℕ) → List ℕ → Cut (List ℕ)
file_of_text (Some file) text = record { front = file; rest = text }
file_of_text None text = split_file (trim_start text)

-- the request by its sort and the text after the sort
abbrev pub request_of_rest : Sort → Cut (List ℕ) → Digits → Question
request_of_rest sort cut digits = request_in sort cut.front cut.rest digits

-- the request of a text; the text names the file if none is given
abbrev pub request_of : List ℕ → Option (List ℕ) → Digits → Question
request_of [] file digits = lacking lack.Text
request_of (byte ∷ text) file digits =
    let sort = sort_of (byte ∷ text) in request_of_rest sort.front (file_of_text file sort.rest) digits
