-- The words and names in printed types.
use Rattle.std.specs.Prelude.{ℕ, ◌==◌, ◌/◌, ◌++◌, false, List, [], ◌∷◌, reverse}
use Rattle.std.specs.Prelude.{Option, Some, None, codes, if◌then◌else◌}
use Rattle.std.specs.Fmt.{decimal, digits}
use Rattle.pdb_records.specs.Names.{lossy}
use Rattle.pdb_records.specs.declared.types.ClassKind.{ClassKind}
use Rattle.pdb_records.specs.declared.types.ClassKind.TheVariants as class
use Rattle.pdb_records.specs.declared.types.TypeIndex.{TypeIndex}
use Rattle.pdb_types.specs.declared.flags.TypeFormatterFlags.{TypeFormatterFlags}
use Rattle.pdb_type_texts.specs.declared.wording.Wording.{Wording}
use Rattle.pdb_type_texts.specs.declared.wording.Wording.TheVariants.{Text, MissingType, UnimplementedKind}
use Rattle.pdb_type_texts.specs.declared.wording.Wording.TheVariants.{UnhandledKind, UnhandledScope}
use Rattle.pdb_type_texts.specs.declared.wording.Wording.TheVariants.{Declared, FunctionName, Namespace}
use Rattle.pdb_type_texts.specs.declared.wording.Wording.TheVariants.{Primitive, Pointers, Dimensions}
use Rattle.pdb_type_texts.specs.FlagTests.{with_names_alone, with_space_after_comma, without_static}
use Rattle.pdb_type_texts.specs.Namespaces.{namespace_text}
use Rattle.pdb_type_texts.specs.PrimitiveNames.{primitive_text}
use Rattle.pdb_type_texts.specs.declared.attributes.Predecessor.TheVariants.{Opening}
use Rattle.pdb_type_texts.specs.Attributes.{attributes_text}

-- a number in lower case hexadecimal, with `0x` before it
abbrev pub hexadecimal : ℕ → List ℕ
hexadecimal n = codes "0x" ++ digits 16 false n

-- the note for a missing type or id
abbrev pub missing_text : ℕ → List ℕ
missing_text index = codes "<missing type " ++ hexadecimal index ++ codes ">"

-- the note for a type or an id of a kind that isn't read
abbrev pub unimplemented_text : ℕ → List ℕ
unimplemented_text kind = codes "<unimplemented type kind " ++ hexadecimal kind ++ codes ">"

-- the note for a type of a kind that is read but not printed
abbrev pub unhandled_text : List ℕ → List ℕ
unhandled_text kind = codes "unhandled type /* " ++ kind ++ codes " */"

-- the text for a scope of a kind that is read but not printed
abbrev pub unhandled_scope_text : List ℕ → List ℕ
unhandled_scope_text kind = codes "<unhandled id scope " ++ kind ++ codes ">::"

-- the word that a class was declared with
abbrev pub class_word : ClassKind → List ℕ
class_word class.Class = codes "class "
class_word class.Interface = codes "interface "
class_word class.Struct = codes "struct "

-- a name as text, with the word of its declaration before it, unless only names are printed
abbrev pub declared_text : TypeFormatterFlags → List ℕ → List ℕ → List ℕ
declared_text flags word bytes = if with_names_alone flags then lossy bytes else word ++ lossy bytes

-- the name of a function, or a note if it is empty
abbrev pub function_name : List ℕ → List ℕ
function_name [] = codes "<name omitted>"
function_name (first ∷ rest) = first ∷ rest

-- the text before a method: `static` if it has no `this`, unless the flags leave out that word
abbrev pub static_text : TypeFormatterFlags → Option TypeIndex → List ℕ
static_text flags None = if without_static flags then [] else codes "static "
static_text flags (Some this) = []

-- the text between two arguments
abbrev pub comma : TypeFormatterFlags → List ℕ
comma flags = if with_space_after_comma flags then codes ", " else codes ","

-- the size of an element at this level of an array: that of the next level, or of the base
abbrev pub next_size : List ℕ → ℕ → ℕ
next_size [] base = base
next_size (level ∷ inner) base = level

-- the number of elements in this many bytes, in brackets; empty brackets if the size of an element is 0
abbrev pub dimension_text : ℕ → ℕ → List ℕ
dimension_text bytes element = codes "[" ++ (if element == 0 then [] else decimal (bytes / element)) ++ codes "]"

-- the dimensions of an array, by the sizes of its levels and of its base
abbrev pub dimensions_text : List ℕ → ℕ → List ℕ
dimensions_text [] base = []
dimensions_text (level ∷ inner) base = dimension_text level (next_size inner base) ++ dimensions_text inner base

-- the text of a fixed piece of a signature
abbrev pub wording_text : TypeFormatterFlags → Wording → List ℕ
wording_text flags (Text known) = known.now
wording_text flags (MissingType index) = missing_text index
wording_text flags (UnimplementedKind kind) = unimplemented_text kind
wording_text flags (UnhandledKind kind) = unhandled_text kind.now
wording_text flags (UnhandledScope kind) = unhandled_scope_text kind.now
wording_text flags (Declared word name) = declared_text flags word.now name.now
wording_text flags (FunctionName name) = function_name (lossy name.now)
wording_text flags (Namespace name) = namespace_text (lossy name.now)
wording_text flags (Primitive primitive constant) = primitive_text flags primitive constant
wording_text flags (Pointers attributes) = attributes_text flags Opening (reverse attributes.items)
wording_text flags (Dimensions levels base) = dimensions_text levels.items base
