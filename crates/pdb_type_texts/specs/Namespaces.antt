-- The printed names of namespaces.
use Rattle.std.specs.Prelude.{ℕ, ◌&&◌, ◌^◌, Bool, List, length, drop, codes, nat_eq, nat_lt, if◌then◌else◌}
use Rattle.std.specs.Char.{is_digit}
use Rattle.std.specs.List.{list_all, starts_with}
use Rattle.std.specs.Str.Parse.{digits_value, without_leading_plus}

-- whether a text is a hash: hexadecimal digits of a 32-bit number, which may have `+` before them
abbrev pub is_hash : List ℕ → Bool
is_hash text =
    let hexadecimals = without_leading_plus text in
    nat_lt 0 (length hexadecimals)
    && list_all (λ digit. is_digit digit 16) hexadecimals
    && nat_lt (digits_value 16 hexadecimals) (2 ^ 32)

-- whether a text is the compiler's name for a namespace without a name: `?A0x` and a hash
abbrev pub is_anonymous : List ℕ → Bool
is_anonymous text = starts_with nat_eq text (codes "?A0x") && is_hash (drop 4 text)

-- the printed name of a namespace
abbrev pub namespace_text : List ℕ → List ℕ
namespace_text text = if is_anonymous text then codes "`anonymous namespace'" else text
