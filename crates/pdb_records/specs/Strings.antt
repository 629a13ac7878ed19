-- Texts by their references.
use Rattle.std.specs.Prelude.{ℕ, List, Option, option_map, find, ◌==◌}
use Rattle.pdb_records.specs.declared.strings.StringRef.{StringRef}

-- the text of the first entry with this reference
abbrev pub string_at : StringRef → List (StringRef × List ℕ) → Option (List ℕ)
string_at reference strings = option_map (λ entry. entry.1) (find (λ entry. entry.0.0 == reference.0) strings)
