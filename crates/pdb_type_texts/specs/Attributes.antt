-- The stars and ampersands of pointers and references.
use Rattle.std.specs.Prelude.{ℕ, ◌++◌, ◌||◌, Bool, true, false, List, [], ◌∷◌, codes, if◌then◌else◌}
use Rattle.pdb_records.specs.declared.types.PointerMode.{PointerMode}
use Rattle.pdb_records.specs.declared.types.PointerMode.TheVariants as pointer
use Rattle.pdb_records.specs.declared.types.PointerType.{PointerType}
use Rattle.pdb_types.specs.declared.flags.TypeFormatterFlags.{TypeFormatterFlags}
use Rattle.pdb_type_texts.specs.FlagTests.{with_space_before_pointer}
pub use Rattle.pdb_type_texts.specs.declared.attributes.Attribute.{Attribute}
use Rattle.pdb_type_texts.specs.declared.attributes.Predecessor.{Predecessor}
use Rattle.pdb_type_texts.specs.declared.attributes.Predecessor.TheVariants.{Opening, Sigil, Text}

-- the attributes of a pointer before its target is known; it is constant by itself, or if `const` is before it
abbrev pub attribute_of : PointerType → Bool → Attribute
attribute_of p constant = record { points = p.mode; constant_pointer = p.is_const || constant; constant_target = false }

-- the last pointer, which is first in the list, gets a constant target or not
abbrev pub with_target : Bool → List Attribute → List Attribute
with_target constant [] = []
with_target constant (a ∷ earlier) =
    record { points = a.points; constant_pointer = a.constant_pointer; constant_target = constant } ∷ earlier

-- the sign of a pointer or a reference
abbrev pub sigil : PointerMode → List ℕ
sigil pointer.Pointer = codes "*"
sigil pointer.LValueReference = codes "&"
sigil pointer.Member = codes "::*"
sigil pointer.MemberFunction = codes "::*"
sigil pointer.RValueReference = codes "&&"

-- the space before a sign, if it is wanted
abbrev pub space_before_sigil : TypeFormatterFlags → List ℕ
space_before_sigil flags = if with_space_before_pointer flags then codes " " else []

-- the text before a sign: `const` if the target is constant, and the space if it is wanted. Without `const`, there is
-- no text right after the opening or another sign
abbrev pub before_sigil : TypeFormatterFlags → Predecessor → Bool → List ℕ
before_sigil flags Opening true = codes "const" ++ space_before_sigil flags
before_sigil flags other true = codes " const" ++ space_before_sigil flags
before_sigil flags Text false = space_before_sigil flags
before_sigil flags other false = []

-- the end of a pointer's text: its sign, or `const`
abbrev pub end_of : Attribute → Predecessor
end_of a = if a.constant_pointer then Text else Sigil

-- the text of one pointer: the text before its sign, the sign, and `const` if the pointer is constant
abbrev pub attribute_text : TypeFormatterFlags → Predecessor → Attribute → List ℕ
attribute_text flags predecessor a =
    before_sigil flags predecessor a.constant_target ++ sigil a.points
    ++ (if a.constant_pointer then codes " const" else [])

-- the text of the pointers of a chain, the last first; `predecessor` is what is just before them
abbrev pub attributes_text : TypeFormatterFlags → Predecessor → List Attribute → List ℕ
attributes_text flags predecessor [] = []
attributes_text flags predecessor (a ∷ earlier) =
    attribute_text flags predecessor a ++ attributes_text flags (end_of a) earlier
