-- Debug ids and their two texts: with braces and a slash, and that of symbol servers.
use Rattle.std.specs.Prelude.{ℕ, ◌+◌, ◌^◌, List, length, ◌++◌, ◌==◌, take, drop, Bool, true, not, ◌&&◌, nat_lt, codes}
use Rattle.std.specs.Prelude.{Option, Some, None, option_and_then, option_map, if◌then◌else◌, decimal}
use Rattle.std.specs.Char.{digit_value}
use Rattle.std.specs.Fmt.{digits}
use Rattle.std.specs.List.{list_all, position}
use Rattle.std.specs.Str.Parse.{digits_value}
use Rattle.uuid.specs.Text.{braced_text, parsed, simple_text, upper}
use Rattle.pdb_identity.specs.declared.debug_id.DebugId.{DebugId}

-- whether a text has one or more digits of this radix, in either case, and nothing else
abbrev pub is_numeral : ℕ → List ℕ → Bool
is_numeral radix text = not (length text == 0) && list_all (λ digit. nat_lt (digit_value digit) radix) text

-- the age in these digits, if it fits in 32 bits
abbrev pub age_of : ℕ → List ℕ → Option ℕ
age_of radix text =
    if is_numeral radix text && nat_lt (digits_value radix text) (2 ^ 32) then Some (digits_value radix text) else None

-- the debug id of the text of a GUID and of the digits of an age
abbrev pub id_of_parts : ℕ → List ℕ → List ℕ → Option DebugId
id_of_parts radix guid age =
    option_and_then (λ age. option_map (λ guid. record { guid = guid; age = age }) (parsed guid)) (age_of radix age)

-- the debug id of a text with a slash at this position: the GUID before it and a decimal age after it. Without a slash,
-- the GUID is the first 32 digits, and the age is in the hexadecimal digits after them
abbrev pub id_by_slash : Option ℕ → List ℕ → Option DebugId
id_by_slash (Some at) text = id_of_parts 10 (take at text) (drop (at + 1) text)
id_by_slash None text = id_of_parts 16 (take 32 text) (drop 32 text)

-- the debug id of a text in either form; the first slash counts
unfoldable pub debug_id_of : List ℕ → Option DebugId
debug_id_of text = id_by_slash (position (λ byte. byte == 47) text) text

-- the text of a debug id: the GUID in braces, a slash and the age
abbrev pub debug_id_text : DebugId → List ℕ
debug_id_text id = braced_text upper id.guid ++ (codes "/" ++ decimal id.age)

-- the text of a debug id for symbol servers: the 32 digits of the GUID, and the age in hexadecimal digits
abbrev pub compact_text : DebugId → List ℕ
compact_text id = simple_text upper id.guid ++ digits 16 true id.age
