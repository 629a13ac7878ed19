-- Addresses and numbers in the words of a command line or of an input line.
use Rattle.std.specs.Prelude.{ℕ, ◌^◌, List, [], ◌∷◌, length, Option, Some, None, Bool, not, ◌&&◌, ◌==◌, nat_lt}
use Rattle.std.specs.Prelude.{codes, if◌then◌else◌}
use Rattle.std.specs.Char.{digit_value}
use Rattle.std.specs.List.{list_all}
use Rattle.std.specs.Str.Parse.{digits_value}
use Rattle.pdb_answer_printer.specs.declared.printer_options.Digits.{Digits}
use Rattle.pdb_answer_printer.specs.declared.printer_options.Digits.TheVariants.{Hexadecimal, ByPrefix}

-- the rest of a text after a prefix; none if it doesn't begin with that prefix
abbrev pub after_prefix : List ℕ → List ℕ → Option (List ℕ)
after_prefix [] text = Some text
after_prefix (character ∷ front) [] = None
after_prefix (character ∷ front) (byte ∷ text) = if byte == character then after_prefix front text else None

-- the first of two optional rests if there is one, else the second
abbrev pub either_of : Option (List ℕ) → Option (List ℕ) → Option (List ℕ)
either_of (Some rest) other = Some rest
either_of None other = other

-- whether a word consists of digits of this radix only, and has at least one
abbrev pub is_numeral : ℕ → List ℕ → Bool
is_numeral radix word = not (length word == 0) && list_all (λ digit. nat_lt (digit_value digit) radix) word

-- the number that a word of digits says, if it fits 64 bits
abbrev pub number_of : ℕ → List ℕ → Option ℕ
number_of radix word =
    if is_numeral radix word && nat_lt (digits_value radix word) (2 ^ 64) then Some (digits_value radix word) else None

-- the digits after `0x` or `0X`
abbrev pub hexadecimal_digits : List ℕ → Option (List ℕ)
hexadecimal_digits word = either_of (after_prefix (codes "0x") word) (after_prefix (codes "0X") word)

-- the digits after `0b` or `0B`
abbrev pub binary_digits : List ℕ → Option (List ℕ)
binary_digits word = either_of (after_prefix (codes "0b") word) (after_prefix (codes "0B") word)

-- the hexadecimal number in the digits after a prefix, or in the whole word if it has no such prefix
abbrev pub hexadecimal_number_by : Option (List ℕ) → List ℕ → Option ℕ
hexadecimal_number_by (Some digits) word = number_of 16 digits
hexadecimal_number_by None word = number_of 16 word

-- the hexadecimal number that a word says, with or without `0x` or `0X` before the digits
abbrev pub hexadecimal_number : List ℕ → Option ℕ
hexadecimal_number word = hexadecimal_number_by (hexadecimal_digits word) word

-- the number in a word without letters: octal if it has more digits after a leading zero, else decimal
abbrev pub plain_number_by : Option (List ℕ) → List ℕ → Option ℕ
plain_number_by (Some (digit ∷ digits)) word = number_of 8 (digit ∷ digits)
plain_number_by (Some []) word = number_of 10 word
plain_number_by None word = number_of 10 word

-- digits after `0o` are octal; a word without that prefix is octal or decimal by its leading zero
abbrev pub octal_number_by : Option (List ℕ) → List ℕ → Option ℕ
octal_number_by (Some digits) word = number_of 8 digits
octal_number_by None word = plain_number_by (after_prefix (codes "0") word) word

-- digits after `0b` or `0B` are binary; a word without that prefix is tried as octal next
abbrev pub binary_number_by : Option (List ℕ) → List ℕ → Option ℕ
binary_number_by (Some digits) word = number_of 2 digits
binary_number_by None word = octal_number_by (after_prefix (codes "0o") word) word

-- digits after `0x` or `0X` are hexadecimal; a word without that prefix is tried as binary next
abbrev pub prefixed_number_by : Option (List ℕ) → List ℕ → Option ℕ
prefixed_number_by (Some digits) word = number_of 16 digits
prefixed_number_by None word = binary_number_by (binary_digits word) word

-- the number that a word says, in the radix of its prefix
abbrev pub prefixed_number : List ℕ → Option ℕ
prefixed_number word = prefixed_number_by (hexadecimal_digits word) word

-- the address that a word says: hexadecimal, or in the radix of its prefix
abbrev pub address_of : List ℕ → Digits → Option ℕ
address_of word Hexadecimal = hexadecimal_number word
address_of word ByPrefix = prefixed_number word
