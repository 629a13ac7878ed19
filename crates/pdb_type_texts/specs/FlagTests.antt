-- The flags for printing signatures.
use Rattle.std.specs.Prelude.{ℕ, Bool, not, ◌==◌, bit_and}
use Rattle.pdb_types.specs.declared.flags.TypeFormatterFlags.{TypeFormatterFlags}

-- whether one of these bits is set
abbrev pub sets_some : TypeFormatterFlags → ℕ → Bool
sets_some flags wanted = not (bit_and flags.0 wanted == 0)

-- whether functions are printed without their return type
abbrev pub without_return_type : TypeFormatterFlags → Bool
without_return_type flags = sets_some flags 1

-- whether methods are printed without the word `static`
abbrev pub without_static : TypeFormatterFlags → Bool
without_static flags = sets_some flags 2

-- whether a space follows each comma of an argument list
abbrev pub with_space_after_comma : TypeFormatterFlags → Bool
with_space_after_comma flags = sets_some flags 4

-- whether a space precedes each `*` and `&`
abbrev pub with_space_before_pointer : TypeFormatterFlags → Bool
with_space_before_pointer flags = sets_some flags 8

-- whether only the name of a class, a union or an enumeration is printed
abbrev pub with_names_alone : TypeFormatterFlags → Bool
with_names_alone flags = sets_some flags 16

-- whether functions are printed without their arguments
abbrev pub without_arguments : TypeFormatterFlags → Bool
without_arguments flags = sets_some flags 32
