-- Texts in streams, and the padding after them.
use Rattle.std.specs.Prelude.{ℕ, ◌+◌, ◌-◌, ◌%◌, ◌==◌, nat_lt, List, [], ◌∷◌, take, drop, length}
use Rattle.std.specs.Prelude.{Option, Some, None, option_map, Result, Ok, Err, if◌then◌else◌}
use Rattle.std.specs.List.{position_from}
use Rattle.pdb_records.specs.declared.error.StreamError.{StreamError}
use Rattle.pdb_msf.specs.declared.faults.TheConstants.{CUT}

-- the number of bytes before the first zero byte, if there is one
abbrev pub text_length : List ℕ → Option ℕ
text_length bytes = position_from (λ byte. byte == 0) 0 bytes

-- the zero-terminated text at the start of these bytes, without its zero
abbrev pub text_in : List ℕ → Option (List ℕ)
text_in bytes = option_map (λ count. take count bytes) (text_length bytes)

-- a zero-terminated text at the start of bytes, and the bytes after its zero; `CUT` if there is no zero
abbrev pub text_or_cut : List ℕ → Option (List ℕ) → Result (List ℕ × List ℕ) StreamError
text_or_cut bytes None = Err CUT
text_or_cut bytes (Some text) = Ok (text, drop (length text + 1) bytes)

-- the zero-terminated text at the start of these bytes, and the bytes after its zero
abbrev pub first_text : List ℕ → Result (List ℕ × List ℕ) StreamError
first_text bytes = text_or_cut bytes (text_in bytes)

-- the text after a byte with its length; absent if there are fewer bytes than that
abbrev pub counted_text_in : List ℕ → Option (List ℕ)
counted_text_in [] = None
counted_text_in (count ∷ bytes) = if nat_lt (length bytes) count then None else Some (take count bytes)

-- the number of bytes from a place to the next multiple of four
abbrev pub padding : ℕ → ℕ
padding place = (4 - place % 4) % 4
