-- Parses the words of a command line.
use Rattle.std.specs.Prelude.{ℕ, ◌+◌, ◌-◌, ◌*◌, ◌^◌, List, [], ◌∷◌, length, drop, codes, Option}
use Rattle.std.specs.Prelude.{Some, None, nat_le, nat_lt, nat_eq, ◌&&◌, if◌then◌else◌}
use Rattle.std.specs.List.{starts_with}
use Rattle.std.specs.Cmp.Lexicographic.{pointwise}
use Rattle.pdb_report_lib.specs.declared.report_arguments.ReportArguments.{ReportArguments}
use Rattle.pdb_report_lib.specs.declared.reports.Command.{Command}
use Rattle.pdb_report_lib.specs.declared.reports.Command.TheVariants.{Names, Frames}
use Rattle.pdb_report_lib.specs.declared.reports.Command.TheVariants as wanted

-- passes an optional value to a computation
infixl 10 ◌>>=◌
abbrev pub ◌>>=◌ : {A B : Type 0} → Option A → (A → Option B) → Option B
None >>= next = None
(Some value) >>= next = next value

-- the value of a hexadecimal digit of either case
abbrev pub hex_digit : ℕ → Option ℕ
hex_digit c =
    if nat_le 48 c && nat_le c 57 then Some (c - 48)
    else if nat_le 97 c && nat_le c 102 then Some (c - 87)
    else if nat_le 65 c && nat_le c 70 then Some (c - 55)
    else None

-- a number, if it fits in 32 bits
abbrev pub in_32_bits : ℕ → Option ℕ
in_32_bits n = if nat_lt n (2 ^ 32) then Some n else None

-- the number in hexadecimal digits, after the number of the digits before them
abbrev pub hex_after : ℕ → List ℕ → Option ℕ
hex_after value [] = Some value
hex_after value (c ∷ cs) = do
  digit ← hex_digit c
  next ← in_32_bits (value * 16 + digit)
  hex_after next cs

-- the text without `0x` before it
abbrev pub without_prefix : List ℕ → List ℕ
without_prefix text = if starts_with nat_eq text (codes "0x") then drop 2 text else text

-- the address in a word of one to eight hexadecimal digits
abbrev pub digits_address : List ℕ → Option ℕ
digits_address digits =
    if nat_lt 0 (length digits) && nat_le (length digits) 8 then hex_after 0 digits else None

-- the address in a word, with or without `0x`
abbrev pub address_of : List ℕ → Option ℕ
address_of word = digits_address (without_prefix word)

-- the addresses in words; none if one of the words has no address
abbrev pub addresses_of : List (List ℕ) → Option (List ℕ)
addresses_of [] = Some []
addresses_of (word ∷ words) = do
  address ← address_of word
  rest ← addresses_of words
  Some (address ∷ rest)

-- a request: the path of a records file, the command, and the addresses
pub record Asked : Type 0 where
  pub path : List ℕ
  pub command : Command
  pub addresses : List ℕ

-- the command of a word
abbrev pub command_of : List ℕ → Option Command
command_of word =
    if pointwise nat_eq word (codes "names") then Some Names
    else if pointwise nat_eq word (codes "frames") then Some Frames
    else if pointwise nat_eq word (codes "list") then Some wanted.List
    else None

-- the addresses in the words after a command; a list takes no words
abbrev pub asked_addresses : Command → List (List ℕ) → Option (List ℕ)
asked_addresses Names words = addresses_of words
asked_addresses Frames words = addresses_of words
asked_addresses wanted.List [] = Some []
asked_addresses wanted.List (word ∷ words) = None

-- the request in the words after the program's name; without one, the usage line is printed
abbrev pub asked : List (List ℕ) → Option Asked
asked (program ∷ path ∷ command ∷ words) = do
  command ← command_of command
  addresses ← asked_addresses command words
  Some (record { path = path; command = command; addresses = addresses })
asked other = None

-- the model of `ReportArguments`
abbrev pub request : ReportArguments → Asked
request r = record { path = r.path.now; command = r.command; addresses = r.addresses.items }
