-- What a stream's bytes say as a JSON text.
use Rattle.std.proofs.Common.{◌≡◌, ℕ, List, true, false, refl}
use Rattle.std.specs.Prelude.{None, Some}
use Rattle.std.specs.Str.{IsUtf8, is_utf8}
use Rattle.std.proofs.lemmas.Str.{IsUtf8-from_is_utf8, is_utf8-from_IsUtf8}
use Rattle.serde_json.specs.Data.{Data}
use Rattle.serde_json.specs.Read.{read}
use Rattle.pdb_source_urls.specs.SourceLinks.{Link, value_of, with_text, with_value, without_mark}

-- bytes that are UTF-8 and a JSON text are its value
pub value_read : (bytes : List ℕ) (d : Data) → IsUtf8 bytes → read bytes ≡ Some d → value_of bytes ≡ Some d
value_read bytes d utf8 is_read = rw (is_utf8-from_IsUtf8 bytes utf8, is_read) refl

-- bytes that are no UTF-8, or of which no JSON is read, are none
pub value_none : (bytes : List ℕ) → (IsUtf8 bytes → read bytes ≡ None) → value_of bytes ≡ None
value_none bytes nothing_read =
    elim (is_utf8 bytes) as (λ b. is_utf8 bytes ≡ b → value_of bytes ≡ None) [
      | true ↦ λ e. rw (e, nothing_read (IsUtf8-from_is_utf8 bytes e)) refl
      | false ↦ λ e. rw e refl
    ] refl

-- the entries of a stream are those of its value
pub text_read : (stream : List ℕ) (d : Data) (links : List Link) → IsUtf8 (without_mark stream)
    → read (without_mark stream) ≡ Some d → with_text stream links ≡ with_value (Some d) links
unfolding with_text
text_read stream d links utf8 is_read = rw (value_read (without_mark stream) d utf8 is_read) refl

-- a stream without a value has no entries
pub text_none : (stream : List ℕ) (links : List Link)
    → (IsUtf8 (without_mark stream) → read (without_mark stream) ≡ None) → with_text stream links ≡ links
unfolding with_text
text_none stream links nothing_read = rw (value_none (without_mark stream) nothing_read) refl
