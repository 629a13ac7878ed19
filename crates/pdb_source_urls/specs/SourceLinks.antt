-- Source Link: a JSON text that maps paths to URLs.
use Rattle.std.specs.Prelude.{ℕ, ◌==◌, ◌&&◌, Bool, true, false, nat_lt, List, [], ◌∷◌, ◌++◌, codes, count_by, drop}
use Rattle.std.specs.Prelude.{length, Option, Some, None, option_and_then, string_bytes, if◌then◌else◌}
use Rattle.std.specs.List.{after_first, before_first, starts_with}
use Rattle.std.specs.Str.{is_utf8}
use Rattle.serde_json.specs.Data.{Data, Members, no_members, member}
use Rattle.serde_json.specs.Find.{as_object, as_str, get}
use Rattle.serde_json.specs.Read.{read}
use Rattle.pdb_source_urls.specs.declared.source_links.SourceLink.{SourceLink}

-- an entry that counts: its path without the star, whether a star follows it, and its URL with the star
pub record Link : Type 0 where
  pub path : List ℕ
  pub any_rest : Bool
  pub url : List ℕ

-- an entry, seen by its texts
abbrev pub link_seen : SourceLink → Link
link_seen link = record { path = string_bytes link.path; any_rest = link.any_rest; url = string_bytes link.url }

-- whether a byte is a star
abbrev pub is_star : ℕ → Bool
is_star byte = byte == 42

-- how many stars a text has
abbrev pub stars : List ℕ → ℕ
stars text = count_by is_star text

-- an entry of a path and a URL: it counts if neither has a star, or if each has one star and the path ends in it
abbrev pub link_by : List ℕ → List ℕ → Option Link
link_by path url =
    if (stars path == 0) && (stars url == 0) then Some (record { path = path; any_rest = false; url = url }) else
    if ((stars path == 1) && (stars url == 1)) && (length (after_first is_star path) == 0)
    then Some (record { path = before_first is_star path; any_rest = true; url = url }) else
    None

-- an entry, whose value has to be a text
abbrev pub link_of : List ℕ → Data → Option Link
link_of path value = option_and_then (link_by path) (as_str value)

-- how many entries of a file count at most
abbrev pub most_links : ℕ
most_links = 4096

-- entries, and one more if it counts
abbrev pub with_link : Option Link → List Link → List Link
with_link None links = links
with_link (Some link) links = if nat_lt (length links) most_links then links ++ link ∷ [] else links

-- entries, and those of a map in its order
abbrev pub with_entries : Members → List Link → List Link
with_entries no_members links = links
with_entries (member path url entries) links = with_entries entries (with_link (link_of path url) links)

-- entries, and those of a map if there is one
abbrev pub with_map : Option Members → List Link → List Link
with_map None links = links
with_map (Some entries) links = with_entries entries links

-- entries, and those of a JSON value: its member `documents` is the map
abbrev pub with_value : Option Data → List Link → List Link
with_value value links =
    with_map (option_and_then as_object (option_and_then (get (codes "documents")) value)) links

-- a text without its byte order mark, if it has one
abbrev pub without_mark : List ℕ → List ℕ
without_mark stream =
    if starts_with (λ a b. a == b) stream (0xef ∷ 0xbb ∷ 0xbf ∷ []) then drop 3 stream else stream

-- the JSON value that bytes are in UTF-8, if they are one
abbrev pub value_of : List ℕ → Option Data
value_of bytes = if is_utf8 bytes then read bytes else None

-- entries, and those of a stream
unfoldable pub with_text : List ℕ → List Link → List Link
with_text stream links = with_value (value_of (without_mark stream)) links
