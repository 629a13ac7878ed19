-- Source server data: a text of sections, with variables and a line for each source file.
use Rattle.std.specs.Prelude.{ℕ, ◌-◌, ◌==◌, Bool, nat_lt, List, [], ◌∷◌, ◌++◌, codes, length, map, take}
use Rattle.std.specs.Prelude.{slice_index, Option, Some, None, unwrap_or, if◌then◌else◌}
use Rattle.std.specs.List.{onto_first, starts_with}
use Rattle.std.specs.Option.{option_map_or}
use Rattle.pdb_source_urls.specs.ServerFiles.{File, file_of}
use Rattle.pdb_source_urls.specs.TextCuts.{cut_at}
use Rattle.pdb_source_urls.specs.declared.source_server.Section.{Section}
use Rattle.pdb_source_urls.specs.declared.source_server.Section.TheVariants.{Files, Other, Variables}
use Rattle.pdb_source_urls.specs.declared.source_server.SourceServer.{SourceServer}
use Rattle.pdb_source_urls.specs.declared.source_server.Variable.{Variable}

-- a variable, by its name and its value
pub record Definition : Type 0 where
  pub name : List ℕ
  pub value : List ℕ

-- source server data: the variables in the order of their definitions, and the source files in that of their lines
pub record Server : Type 0 where
  pub variables : List Definition
  pub files : List File

-- a variable, seen by its bytes
abbrev pub definition_seen : Variable → Definition
definition_seen variable = record { name = variable.name.items; value = variable.value.items }

-- source server data, seen by its bytes
abbrev pub server_seen : SourceServer → Server
server_seen server = record { variables = map definition_seen server.variables.items; files = server.files }

-- the first line of a text: all up to the first line feed
abbrev pub first_line : List ℕ → List ℕ
first_line text = option_map_or (λ cut. cut.0) (cut_at 10 text) text

-- the text after its first line
abbrev pub after_line : List ℕ → List ℕ
after_line text = option_map_or (λ cut. cut.1) (cut_at 10 text) []

-- the lines of a text, which end in line feeds
abbrev pub lines : List ℕ → List (List ℕ)
lines [] = []
lines (byte ∷ text) = if byte == 10 then [] ∷ lines text else onto_first byte (lines text)

-- a line without the carriage return at its end, if it has one
abbrev pub without_return : List ℕ → List ℕ
without_return line = if slice_index line (length line - 1) == 13 then take (length line - 1) line else line

-- whether a text begins with this one
abbrev pub text_begins : List ℕ → List ℕ → Bool
text_begins text front = starts_with (λ a b. a == b) text front

-- the section that a line starts, if it starts one; the lines of the last one say nothing
abbrev pub section_of : List ℕ → Option Section
section_of line =
    if text_begins line (codes "SRCSRV: ini") then Some Variables else
    if text_begins line (codes "SRCSRV: variables") then Some Variables else
    if text_begins line (codes "SRCSRV: source files") then Some Files else
    if text_begins line (codes "SRCSRV: end") then Some Other else
    None

-- how many definitions of variables count at most
abbrev pub most_definitions : ℕ
most_definitions = 1000

-- variables, and one more as long as there are fewer than 1,000
abbrev pub with_definition : Option (List ℕ × List ℕ) → List Definition → List Definition
with_definition None variables = variables
with_definition (Some cut) variables =
    if nat_lt (length variables) most_definitions
    then variables ++ record { name = cut.0; value = cut.1 } ∷ []
    else variables

-- what a line of a section adds: a variable by NAME=VALUE, or a file
abbrev pub with_line : Section → List ℕ → Server → Server
with_line Variables line server = record server { variables = with_definition (cut_at 61 line) server.variables }
with_line Files line server = record server { files = server.files ++ file_of line ∷ [] }
with_line Other line server = server

-- what a line adds: nothing if it starts a section
abbrev pub with_line_by : Option Section → Section → List ℕ → Server → Server
with_line_by (Some started) section line server = server
with_line_by None section line server = with_line section line server

-- what lines add; the first of them is in this section
abbrev pub with_lines : Section → List (List ℕ) → Server → Server
with_lines section [] server = server
with_lines section (line ∷ lines) server =
    with_lines (unwrap_or (section_of (without_return line)) section) lines
    (with_line_by (section_of (without_return line)) section (without_return line) server)

-- before any line
abbrev pub no_server : Server
no_server = record { variables = []; files = [] }

-- the source server data of a stream
unfoldable pub server_of : List ℕ → Server
server_of text = with_lines Other (lines text) no_server
