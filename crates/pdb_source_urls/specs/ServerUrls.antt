-- The URL of a source file by source server data.
use Rattle.std.specs.Prelude.{ℕ, ◌||◌, ◌&&◌, Bool, nat_lt, List, [], ◌∷◌, codes, Option, Some, None, is_some}
use Rattle.std.specs.Prelude.{length, option_and_then, if◌then◌else◌}
use Rattle.std.specs.Str.{is_utf8}
use Rattle.pdb_source_urls.specs.Expansion.{Value, expand, most_text, value_of, variable_value}
use Rattle.pdb_source_urls.specs.PathNames.{alike}
use Rattle.pdb_source_urls.specs.ServerFiles.{File}
use Rattle.pdb_source_urls.specs.SourceServer.{Definition, Server, text_begins}

-- how deeply values may nest
abbrev pub most_depth : ℕ
most_depth = 32

-- the line of the first source file of this name
abbrev pub file_line : List ℕ → List File → Option (List ℕ)
file_line name [] = None
file_line name (file ∷ files) = if alike file.name name then Some file.line else file_line name files

-- whether a text is a URL of a server, in UTF-8
abbrev pub is_url : List ℕ → Bool
is_url text = (text_begins text (codes "http://") || text_begins text (codes "https://")) && is_utf8 text

-- the text of a value that is a URL
abbrev pub url_in : List ℕ → Option (List ℕ)
url_in text = if is_url text then Some text else None

-- the value of the variable SRCSRVTRG, for the line of a file
unfoldable pub target : List Definition → List ℕ → Option Value
target variables line = value_of (expand most_depth (record { variables = variables; line = line }))
    (record { variables = variables; line = line }) (codes "SRCSRVTRG") 0

-- the URL by the line of a file: none where the line is too long, or where the file comes by a command
abbrev pub line_url : List Definition → List ℕ → Option (List ℕ)
line_url variables line =
    if nat_lt most_text (length line) || is_some (variable_value (codes "SRCSRVCMD") variables) then None else
    option_and_then (λ value. url_in value.text) (target variables line)

-- the URL of a file by source server data
abbrev pub server_url : Server → List ℕ → Option (List ℕ)
server_url server file = option_and_then (line_url server.variables) (file_line file server.files)
