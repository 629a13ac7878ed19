-- Bytes that are UTF-8, and others.
use Rattle.std.proofs.Common.{◌≡◌, ℕ, List, Bool, true, false, refl}
use Rattle.std.specs.Str.{IsUtf8, is_utf8}
use Rattle.std.proofs.lemmas.Str.{IsUtf8-from_is_utf8, is_utf8-from_IsUtf8}

-- bytes that aren't UTF-8 fail the test
pub fails_utf8 : (bytes : List ℕ) → ¬ (IsUtf8 bytes) → is_utf8 bytes ≡ false
fails_utf8 bytes other = by_test (is_utf8 bytes) (λ passes. other (IsUtf8-from_is_utf8 bytes passes)) where
  by_test : (test : Bool) → ¬ (test ≡ true) → test ≡ false
  by_test true fails = absurd (fails refl)
  by_test false fails = refl

-- what the test of bytes says by what they are
pub ruleset by_utf8 = (is_utf8-from_IsUtf8, fails_utf8)
