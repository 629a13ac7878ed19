-- The URL of a source file by Source Link.
use Rattle.std.specs.Prelude.{ℕ, ◌/◌, ◌%◌, ◌==◌, ◌&&◌, ◌||◌, not, Bool, true, nat_lt, List, [], ◌∷◌, ◌++◌, codes}
use Rattle.std.specs.Prelude.{drop, length, Option, Some, None, option_map, if◌then◌else◌}
use Rattle.std.specs.Char.{is_ascii_alphanumeric}
use Rattle.std.specs.Fmt.{digits}
use Rattle.std.specs.List.{after_first, before_first, flat_map}
use Rattle.pdb_source_urls.specs.PathNames.{alike, begins_with}
use Rattle.pdb_source_urls.specs.SourceLinks.{Link, is_star}

-- whether an entry fits a file: the name is its path, or begins with it if a star follows
abbrev pub fits : List ℕ → Link → Bool
fits file link = if link.any_rest then begins_with file link.path else alike file link.path

-- whether an entry that fits counts before the best one so far: its path is longer, or as long and without a star where
-- the other has one
abbrev pub is_better : Option Link → Link → Bool
is_better None link = true
is_better (Some best) link = nat_lt (length best.path) (length link.path)
    || ((length best.path == length link.path) && (best.any_rest && not link.any_rest))

-- the best of the one so far and these
abbrev pub best_link : List ℕ → Option Link → List Link → Option Link
best_link file best [] = best
best_link file best (link ∷ links) =
    best_link file (if fits file link && is_better best link then Some link else best) links

-- whether a URL has a byte as it is: a letter, a digit, or one of `/-_.~`
abbrev pub is_plain : ℕ → Bool
is_plain byte = is_ascii_alphanumeric byte
    || ((byte == 47) || ((byte == 45) || ((byte == 95) || ((byte == 46) || (byte == 126)))))

-- a byte of a file's name in a URL: a backslash is written as `/`, and others that aren't plain as `%` and two
-- hexadecimal digits
abbrev pub escaped_byte : ℕ → List ℕ
escaped_byte byte =
    if byte == 92 then codes "/" else
    if is_plain byte then byte ∷ [] else
    codes "%" ++ (digits 16 true (byte / 16) ++ digits 16 true (byte % 16))

-- the rest of a file's name in a URL
abbrev pub escaped : List ℕ → List ℕ
escaped rest = flat_map escaped_byte rest

-- the URL that an entry gives a file: the rest of the file's name, after the path, replaces the star
abbrev pub url_by_link : List ℕ → Link → List ℕ
url_by_link file link =
    if link.any_rest
    then before_first is_star link.url ++ (escaped (drop (length link.path) file) ++ after_first is_star link.url)
    else link.url

-- the URL of a file by the entry that fits it best, if any does
abbrev pub link_url : List Link → List ℕ → Option (List ℕ)
link_url links file = option_map (url_by_link file) (best_link file None links)
