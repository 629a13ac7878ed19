-- Names in UTF-8, and others.
use Rattle.std.proofs.Common.{◌≡◌, ℕ, List, Bool, true, false, refl, sym}
use Rattle.std.specs.Str.{IsUtf8, is_utf8}
use Rattle.std.proofs.lemmas.Str.{IsUtf8-from_is_utf8, is_utf8-from_IsUtf8}
use Rattle.bstr.proofs.lemmas.EncodeLemmas.{lossy_chars-utf8}
use Rattle.pdb_records.specs.Names.{lossy}

-- a name in UTF-8 is its own text
pub text_of_utf8 : (bytes : List ℕ) → IsUtf8 bytes → bytes ≡ lossy bytes
text_of_utf8 bytes is = sym (lossy_chars-utf8 bytes is)

-- a name in UTF-8 passes the test
pub utf8_passes : (bytes : List ℕ) → IsUtf8 bytes → is_utf8 bytes ≡ true
utf8_passes bytes is = is_utf8-from_IsUtf8 bytes is

-- no other name passes it
pub others_fail : (bytes : List ℕ) → ¬ (IsUtf8 bytes) → is_utf8 bytes ≡ false
others_fail bytes other = by_test (is_utf8 bytes) (λ passes. other (IsUtf8-from_is_utf8 bytes passes)) where
  by_test : (test : Bool) → ¬ (test ≡ true) → test ≡ false
  by_test true fails = absurd (fails refl)
  by_test false fails = refl

-- what a name in UTF-8 is, and that others fail the test
pub ruleset by_utf8 = (text_of_utf8, utf8_passes, others_fail)
