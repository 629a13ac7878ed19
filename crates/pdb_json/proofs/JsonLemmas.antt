-- The value that a text is.
use Rattle.std.proofs.Common.{◌≡◌, ℕ, List, true, false, Some, None, refl}
use Rattle.std.specs.Str.{IsUtf8, is_utf8}
use Rattle.std.proofs.lemmas.Str.{IsUtf8-from_is_utf8, is_utf8-from_IsUtf8}
use Rattle.serde_json.specs.Data.{Data}
use Rattle.serde_json.specs.Read.{read}
use Rattle.pdb_json.specs.Json.{json_of}

-- a text that is UTF-8 is the value that is read of it
pub json_of-read : (bytes : List ℕ) (d : Data) → IsUtf8 bytes → read bytes ≡ Some d → json_of bytes ≡ Some d
json_of-read bytes d utf8 is_read = rw (is_utf8-from_IsUtf8 bytes utf8) is_read

-- a text of which nothing is read, or that is no UTF-8, is no value
pub json_of-none : (bytes : List ℕ) → (IsUtf8 bytes → read bytes ≡ None) → json_of bytes ≡ None
json_of-none bytes nothing_read =
    elim (is_utf8 bytes) as (λ b. is_utf8 bytes ≡ b → json_of bytes ≡ None) [
      | true ↦ λ e. rw e (nothing_read (IsUtf8-from_is_utf8 bytes e))
      | false ↦ λ e. rw e
    ] refl
