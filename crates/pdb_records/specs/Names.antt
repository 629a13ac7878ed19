-- Names as text.
use Rattle.std.specs.Prelude.{ℕ, List, Bool, true, false, encode_utf8_all}
use Rattle.std.specs.declared.borrow.CowStr.{CowStr}
use Rattle.std.specs.declared.borrow.CowStr.TheVariants.{Borrowed, Owned}
use Rattle.bstr.specs.Utf8.{lossy_chars}

-- the bytes of a name as text, with U+FFFD for each sequence that is no UTF-8
abbrev pub lossy : List ℕ → List ℕ
lossy bytes = encode_utf8_all (lossy_chars bytes)

-- whether a text is borrowed, and not a copy
abbrev pub is_borrowed : {Z : Type 0} → CowStr Z → Bool
is_borrowed (Borrowed text) = true
is_borrowed (Owned text) = false
