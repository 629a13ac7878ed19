-- Values of source server data, with the variables and functions in them expanded.
use Rattle.std.specs.Prelude.{ℕ, zero, suc, ◌+◌, ◌-◌, ◌*◌, ◌==◌, ◌&&◌, not, nat_lt, List, [], ◌∷◌, ◌++◌, codes, drop}
use Rattle.std.specs.Prelude.{◌≡◌, length, map, Option, Some, None, option_and_then, option_map, if◌then◌else◌}
use Rattle.std.specs.Prelude.{Result, Ok, Err}
use Rattle.std.specs.Char.{is_ascii_digit}
use Rattle.pdb_source_urls.specs.PathNames.{alike, base_name, begins_with}
use Rattle.pdb_source_urls.specs.SourceServer.{Definition, definition_seen}
use Rattle.pdb_source_urls.specs.TextCuts.{around, cut_at, first_field}
use Rattle.pdb_source_urls.specs.declared.expansion.Function.{Function}
use Rattle.pdb_source_urls.specs.declared.expansion.Function.TheVariants.{Backslashes, BaseName, ValueOf}
use Rattle.pdb_source_urls.specs.declared.expansion.Part.{Part}
use Rattle.pdb_source_urls.specs.declared.expansion.Sources.{Sources}
use Rattle.pdb_source_urls.specs.declared.expansion.ExpandError.{ExpandError}
use Rattle.pdb_source_urls.specs.declared.expansion.ExpandError.TheVariants.{NoValue, OutOfMemory}
use Rattle.pdb_source_urls.specs.declared.expansion.Expanded.{Expanded}

-- what expansion needs: the variables, and the line of the source file
pub record Given : Type 0 where
  pub variables : List Definition
  pub line : List ℕ

-- an expanded text, and how many variables were used so far
pub record Value : Type 0 where
  pub text : List ℕ
  pub used : ℕ

-- an expanded text, and the rest of the text that it was read from
pub record Found : Type 0 where
  pub value : Value
  pub rest : List ℕ

-- what expansion needs, seen by its bytes
abbrev pub given : Sources → Given
given sources = record { variables = map definition_seen sources.variables.now; line = sources.line.now }

-- an expanded text, seen by its bytes
abbrev pub value_seen : Expanded → Value
value_seen expanded = record { text = expanded.text.items; used = expanded.used }

-- an expanded text and the rest, seen by their bytes
abbrev pub found_seen : Part → Found
found_seen part = record { value = value_seen part.value; rest = part.rest.now }

-- a call returns what is defined, unless memory runs out
abbrev pub Gives : {X Y : Type 0} → (X → Y) → Result X ExpandError → Option Y → Type 0
Gives seen (Ok x) defined = defined ≡ Some (seen x)
Gives seen (Err NoValue) defined = defined ≡ None
Gives seen (Err OutOfMemory) defined = Unit {0}

-- how texts one level further inside are expanded, by the text and how many variables were used so far
abbrev pub Smaller : Type 0
Smaller = List ℕ → ℕ → Option Value

-- the value in the last definition of this name, or else the value found before
abbrev pub last_value : List ℕ → Option (List ℕ) → List Definition → Option (List ℕ)
last_value name found [] = found
last_value name found (variable ∷ variables) =
    last_value name (if alike variable.name name then Some variable.value else found) variables

-- the value of the variable of this name
abbrev pub variable_value : List ℕ → List Definition → Option (List ℕ)
variable_value name variables = last_value name None variables

-- the field of a line, by the number of fields before it
abbrev pub field : ℕ → List ℕ → Option (List ℕ)
field zero line = Some (first_field line)
field (suc before) line = option_and_then (λ cut. field before cut.1) (cut_at 42 line)

-- how many fields are before the one with this number, which is from 1 to 99 in decimal digits
abbrev pub fields_before : List ℕ → Option ℕ
fields_before (digit ∷ []) = if is_ascii_digit digit && not (digit == 48) then Some (digit - 49) else None
fields_before (ten ∷ (digit ∷ [])) =
    if (is_ascii_digit ten && not (ten == 48)) && is_ascii_digit digit
    then Some (10 * (ten - 48) + (digit - 48) - 1)
    else None
fields_before other = None

-- the value of a variable whose name is `var` and a number: the field with this number
abbrev pub field_value : List ℕ → List ℕ → Option (List ℕ)
field_value name line =
    if begins_with name (codes "var")
    then option_and_then (λ before. field before line) (fields_before (drop 3 name))
    else None

-- how many variables may be used for a URL
abbrev pub most_uses : ℕ
most_uses = 1000

-- the value of a variable: a field as it is, or else the variable's value, expanded
abbrev pub value_by : Smaller → Option (List ℕ) → Option (List ℕ) → ℕ → Option Value
value_by smaller (Some text) value used = Some (record { text = text; used = used })
value_by smaller None (Some value) used = smaller value used
value_by smaller None None used = None

-- the value of the variable of this name, unless 1,000 variables were used already
abbrev pub value_of : Smaller → Given → List ℕ → ℕ → Option Value
value_of smaller g name used =
    if nat_lt used most_uses
    then value_by smaller (field_value name g.line) (variable_value name g.variables) (used + 1)
    else None

-- the function of this name
abbrev pub function_of : List ℕ → Option Function
function_of name =
    if alike name (codes "fnvar") then Some ValueOf else
    if alike name (codes "fnbksl") then Some Backslashes else
    if alike name (codes "fnfile") then Some BaseName else
    None

-- a byte, or a backslash for a slash
abbrev pub with_backslash : ℕ → ℕ
with_backslash byte = if byte == 47 then 92 else byte

-- what a function gives for a text: the value of the variable of this name, the text with backslashes for slashes, or
-- what follows its last slash
abbrev pub call : Smaller → Given → Function → Value → Option Value
call smaller g ValueOf argument = value_of smaller g argument.text argument.used
call smaller g Backslashes argument = Some (record argument { text = map with_backslash argument.text })
call smaller g BaseName argument = Some (record argument { text = base_name argument.text })

-- the position of the parenthesis that closes, if so many others are open inside
abbrev pub closing : ℕ → List ℕ → Option ℕ
closing inner [] = None
closing inner (byte ∷ text) =
    if byte == 41 then (if inner == 0 then Some 0 else option_map (λ place. place + 1) (closing (inner - 1) text)) else
    if byte == 40 then option_map (λ place. place + 1) (closing (inner + 1) text) else
    option_map (λ place. place + 1) (closing inner text)

-- the text in the parentheses that a text begins with, and what follows them
abbrev pub argument_of : List ℕ → Option (List ℕ × List ℕ)
argument_of [] = None
argument_of (byte ∷ text) =
    if byte == 40 then option_map (around text) (closing 0 text) else None

-- the result of a function call; the text in parentheses is expanded first
abbrev pub call_at : Smaller → Given → Function → ℕ → List ℕ × List ℕ → Option Found
call_at smaller g function used cut =
    option_map (λ value. record { value = value; rest = cut.1 })
    (option_and_then (call smaller g function) (smaller cut.0 used))

-- the value of a name between two `%`: the result of a function call, or else a variable's value
abbrev pub part_by : Smaller → Given → Option Function → ℕ → List ℕ × List ℕ → Option Found
part_by smaller g None used cut =
    option_map (λ value. record { value = value; rest = cut.1 }) (value_of smaller g cut.0 used)
part_by smaller g (Some function) used cut = option_and_then (call_at smaller g function used) (argument_of cut.1)

-- the value after a `%`; its name ends at the next `%`
abbrev pub part_at : Smaller → Given → List ℕ → ℕ → Option Found
part_at smaller g text used =
    option_and_then (λ cut. part_by smaller g (function_of cut.0) used cut) (cut_at 37 text)

-- how many bytes a text may have
abbrev pub most_text : ℕ
most_text = 4096

-- a text with a part appended, unless it becomes too long
abbrev pub added : Value → Found → Option Found
added done part =
    if nat_lt most_text (length done.text + length part.value.text) then None else
    Some (record { value = record part.value { text = done.text ++ part.value.text }; rest = part.rest })

-- a text with this byte appended, or with the value that the byte begins
abbrev pub next : Smaller → Given → ℕ → List ℕ → Value → Option Found
next smaller g byte rest done =
    if byte == 37 then option_and_then (added done) (part_at smaller g rest done.used) else
    added done (record { value = record done { text = byte ∷ [] }; rest = rest })

-- a text with the rest expanded and appended, in at most so many steps
abbrev pub expand_from : Smaller → Given → ℕ → List ℕ → Value → Option Value
expand_from smaller g zero rest done = Some done
expand_from smaller g (suc steps) [] done = Some done
expand_from smaller g (suc steps) (byte ∷ rest) done =
    option_and_then (λ part. expand_from smaller g steps part.rest part.value) (next smaller g byte rest done)

-- a text, expanded; values and function calls may nest to this depth. No more steps are needed than there are bytes
unfoldable pub expand : ℕ → Given → List ℕ → ℕ → Option Value
expand zero g text used = None
expand (suc depth) g text used =
    if nat_lt most_text (length text) then None else
    expand_from (expand depth g) g (length text) text (record { text = []; used = used })
