-- Signatures for small lists of types, as they are printed.
use Rattle.std.proofs.Common.{◌≡◌, ℕ, List, [], ◌∷◌, refl}
use Rattle.std.specs.Prelude.{Bool, true, false, Option, Some, None, Ok, Err, codes}
use Rattle.std.specs.Fmt.{digits}
use Rattle.pdb_records.specs.Names.{lossy}
use Rattle.pdb_records.specs.declared.error.Error.TheVariants.{Stream, UnimplementedTypeKind}
use Rattle.pdb_records.specs.declared.types.Item.{Item}
use Rattle.pdb_records.specs.declared.types.TypeIndex.{TypeIndex}
use Rattle.pdb_records.specs.declared.types.ClassKind.TheVariants.{Struct}
use Rattle.pdb_records.specs.declared.types.PrimitiveKind.{PrimitiveKind}
use Rattle.pdb_records.specs.declared.types.PrimitiveKind.TheVariants.{RChar, I32, Void}
use Rattle.pdb_records.specs.declared.types.PointerMode.{PointerMode}
use Rattle.pdb_records.specs.declared.types.PointerMode.TheVariants as mode
use Rattle.pdb_records.specs.declared.types.Variant.TheVariants as value
use Rattle.pdb_records.specs.declared.types.TypeData.{TypeData}
use Rattle.pdb_records.specs.declared.types.TypeData.TheVariants.{Primitive, Class, MemberFunction, Procedure, Pointer}
use Rattle.pdb_records.specs.declared.types.TypeData.TheVariants.{Array, Union, Enumeration, Enumerate, Modifier}
use Rattle.pdb_records.specs.declared.types.TypeData.TheVariants.{ArgumentList, Other}
use Rattle.pdb_errors.specs.declared.error.Error.TheVariants.{CircularTypeDefinition, PdbError}
use Rattle.pdb_errors.specs.declared.error.Error.TheVariants.{ModuleImportsUnsuccessful, ArgumentTypeNotArgumentList}
use Rattle.pdb_types.specs.FailedParts.{Parts, with_part}
use Rattle.pdb_types.specs.TypeSizes.{type_size}
use Rattle.pdb_types.specs.declared.read_error.Part.TheVariants.{Imports}
use Rattle.pdb_errors.specs.Errors.{ErrorView, Plain}
use Rattle.pdb_types.specs.TypeInputs.{LinkInputs}
use Rattle.pdb_type_texts.specs.Documents.{Run, OfError}
use Rattle.pdb_type_texts.specs.PrintInputs.{PrintInputs, print_inputs_of, type_at}
use Rattle.pdb_type_texts.specs.Unfolding.{Runs}
use Rattle.pdb_type_texts.specs.Signatures.{signature}
use Rattle.pdb_type_texts.proofs.Expansion.{run-expanded, run-each}

-- no part of the records failed
abbrev pub none_failed : Parts
none_failed = []

-- the index with this number
abbrev pub at : ℕ → TypeIndex
at number = record { 0 = number }

-- an entry of the types
abbrev pub entry : ℕ → TypeData → Item TypeIndex TypeData
entry number type = record { index = at number; content = Ok type }

-- a type that the compiler brings
abbrev pub plain : PrimitiveKind → TypeData
plain kind = Primitive (record { kind = kind; indirection = false })

-- a pointer that the compiler brings
abbrev pub plain_pointer : PrimitiveKind → TypeData
plain_pointer kind = Primitive (record { kind = kind; indirection = true })

-- a pointer or a reference, constant itself or not
abbrev pub pointing : PointerMode → Bool → ℕ → TypeData
pointing how constant number =
    Pointer (record { underlying_type = at number; mode = how; is_const = constant; size = 8 })

-- a pointer
abbrev pub pointer_to : ℕ → TypeData
pointer_to number = pointing mode.Pointer false number

-- a constant type
abbrev pub constant_of : ℕ → TypeData
constant_of number = Modifier (record { underlying_type = at number; constant = true })

-- an array of so many bytes
abbrev pub array_of : ℕ → ℕ → TypeData
array_of number bytes = Array (record { element_type = at number; first = bytes; rest = [] })

-- a struct, by its name
abbrev pub struct : List ℕ → TypeData
struct named = Class (record {
  class_kind = Struct;
  name = named;
  unique_name = None;
  size = 4;
  forward_reference =
      false;
})

-- a function, by what it returns and the index of its list of arguments
abbrev pub function_of : Option TypeIndex → ℕ → TypeData
function_of returns list = Procedure (record { return_type = returns; is_constructor = false; argument_list = at list })

-- a method of the class 0x1003 that returns the type 0x1004, by `this` and the index of its list of arguments
abbrev pub method_of : Option TypeIndex → ℕ → TypeData
method_of this list = MemberFunction
    (record {
      return_type = at 0x1004;
      class_type = at 0x1003;
      this_pointer_type = this;
      is_constructor =
          false;
      argument_list = at list;
    })

-- types among which 0x1000 is a function with these arguments
abbrev pub taking : List TypeIndex → List (Item TypeIndex TypeData) → List (Item TypeIndex TypeData)
taking list others = entry 0x1000 (function_of None 0x1001) ∷ entry 0x1001 (ArgumentList list) ∷ others

-- types among which 0x1000 is a method with these arguments
abbrev pub method : Option TypeIndex → List TypeIndex → List (Item TypeIndex TypeData) → List (Item TypeIndex TypeData)
method this list others = entry 0x1000 (method_of this 0x1001) ∷ entry 0x1001 (ArgumentList list) ∷ others

-- one module, whose records can't be read, and no texts
abbrev pub link_inputs : LinkInputs
link_inputs = record {
  info = λ module_index m. Err (record { 0 = 9 });
  modules =
      record { name = codes "a.obj" } ∷ [];
  strings = Some [];
}

-- a program with these types, printed with these flags
abbrev pub program : ℕ → List (Item TypeIndex TypeData) → PrintInputs
program flags items = print_inputs_of link_inputs (record { items = items; fault = None })
    (record { items = []; fault = None }) 8 (record { 0 = flags }) 0

-- printing the signature of a function with this name and type does this
pub record PrintingDoes (w : PrintInputs) (name : List ℕ) (index : ℕ) (failed : Parts) (r : Run) : Type 0 where
  pub always : Runs w (signature w name index) failed r

-- the same, by a document of at most this depth
pub printing-does : {w : PrintInputs} {name : List ℕ} {index : ℕ} {failed : Parts} {r : Run}
    → run-expanded w 12 (signature w name index) failed ≡ Some r → PrintingDoes w name index failed r
printing-does {w} {name} {index} {failed} {r} is =
    record { always = run-each w 12 (signature w name index) failed r is }

-- the signature of the type 0x1000 is printed as this text
abbrev pub Prints : PrintInputs → List ℕ → List ℕ → Type 0
Prints w name text = PrintingDoes w name 0x1000 none_failed (record { text = text; fault = None; failed = none_failed })

-- the signature of the type 0x1000 is printed as far as this text, and then there is this error
abbrev pub Fails : PrintInputs → List ℕ → List ℕ → ErrorView → Type 0
Fails w name text e = PrintingDoes w name 0x1000 none_failed
    (record { text = text; fault = Some (OfError e); failed = none_failed })

-- a pointer to constant characters, and a number
pub text_and_number : Prints (program 23
    (taking (at 0x1002 ∷ at 0x1005 ∷ [])
    (entry 0x1002 (pointer_to 0x1003) ∷ entry 0x1003 (constant_of 0x1004) ∷ entry 0x1004 (plain RChar) ∷ entry 0x1005
    (plain I32) ∷ []))) (codes "f") (codes "f(char const*, int)")
unfolding type_at type_size digits
text_and_number = printing-does refl

-- the same with a space before pointers, and none after commas
pub text_and_number_spaced : Prints
    (program 8 (taking (at 0x1002 ∷ at 0x1005 ∷ [])
    (entry 0x1002 (pointer_to 0x1003) ∷ entry 0x1003 (constant_of 0x1004) ∷ entry 0x1004 (plain RChar) ∷ entry 0x1005
    (plain I32) ∷ []))) (codes "f") (codes "f(char const *,int)")
unfolding type_at type_size digits
text_and_number_spaced = printing-does refl

-- a pointer to a pointer, with a space before pointers
pub pointer_to_pointer : Prints
    (program 8 (taking (at 0x1002 ∷ [])
    (entry 0x1002 (pointer_to 0x1003) ∷ entry 0x1003 (pointer_to 0x1004) ∷ entry 0x1004 (plain I32) ∷ [])))
    (codes "f") (codes "f(int **)")
unfolding type_at type_size digits
pointer_to_pointer = printing-does refl

-- a pointer to a pointer that the compiler brings, with a space before pointers
pub pointer_to_plain_pointer : Prints
    (program 8 (taking (at 0x1002 ∷ []) (entry 0x1002 (pointer_to 0x1003) ∷ entry 0x1003 (plain_pointer I32) ∷ [])))
    (codes "f") (codes "f(int **)")
unfolding type_at type_size digits
pointer_to_plain_pointer = printing-does refl

-- constant pointers, by themselves and by a modifier, and a constant one of those that the compiler brings
pub constant_pointers : Prints
    (program 23 (taking (at 0x1002 ∷ at 0x1003 ∷ at 0x1006 ∷ [])
    (entry 0x1002 (pointing mode.Pointer true 0x1005) ∷ entry 0x1003 (constant_of 0x1004) ∷ entry 0x1004
    (pointer_to 0x1005) ∷ entry 0x1005 (plain I32) ∷ entry 0x1006 (constant_of 0x1007) ∷ entry 0x1007
    (plain_pointer I32) ∷ []))) (codes "f") (codes "f(int* const, int* const, int const*)")
unfolding type_at type_size digits
constant_pointers = printing-does refl

-- references to a pointer
pub references : Prints (program 23
    (taking (at 0x1002 ∷ at 0x1003 ∷ [])
    (entry 0x1002 (pointing mode.LValueReference false 0x1004) ∷ entry 0x1003
    (pointing mode.RValueReference false 0x1004) ∷ entry 0x1004 (pointer_to 0x1005) ∷ entry 0x1005 (plain I32) ∷ [])))
    (codes "f") (codes "f(int*&, int*&&)")
unfolding type_at type_size digits
references = printing-does refl

-- one pointer twice
pub same_twice : Prints (program 23
    (taking (at 0x1002 ∷ at 0x1002 ∷ []) (entry 0x1002 (pointer_to 0x1003) ∷ entry 0x1003 (plain I32) ∷ [])))
    (codes "f") (codes "f(int*, int*)")
unfolding type_at type_size digits
same_twice = printing-does refl

-- an array of arrays of numbers
pub numbers_in_rows : Prints (program 23
    (taking (at 0x1002 ∷ []) (entry 0x1002 (array_of 0x1003 1632) ∷ entry 0x1003 (array_of 0x1004 136) ∷ entry 0x1004
    (plain I32) ∷ []))) (codes "f") (codes "f(int[12][34])")
unfolding type_at type_size digits
numbers_in_rows = printing-does refl

-- an array of arrays of a type without a size
pub nothing_in_rows : Prints (program 23
    (taking (at 0x1002 ∷ []) (entry 0x1002 (array_of 0x1003 1632) ∷ entry 0x1003 (array_of 0x1004 136) ∷ entry 0x1004
    (plain Void) ∷ []))) (codes "f") (codes "f(void[12][])")
unfolding type_at type_size digits
nothing_in_rows = printing-does refl

-- a pointer to a function
pub pointer_to_function : Prints
    (program 23 (taking (at 0x1002 ∷ [])
    (entry 0x1002 (pointer_to 0x1003) ∷ entry 0x1003 (function_of (Some (at 0x1004)) 0x1005) ∷ entry 0x1004
    (plain Void) ∷ entry 0x1005 (ArgumentList (at 0x1006 ∷ [])) ∷ entry 0x1006 (plain I32) ∷ []))) (codes "f")
    (codes "f(void (*)(int))")
unfolding type_at type_size digits
pointer_to_function = printing-does refl

-- a function as an argument: its own parenthesis stays open
pub bare_function : Prints (program 23
    (taking (at 0x1002 ∷ []) (entry 0x1002 (function_of (Some (at 0x1003)) 0x1004) ∷ entry 0x1003
    (plain Void) ∷ entry 0x1004 (ArgumentList (at 0x1005 ∷ [])) ∷ entry 0x1005 (plain I32) ∷ []))) (codes "f")
    (codes "f(()(int)")
unfolding type_at type_size digits
bare_function = printing-does refl

-- a constant number
pub constant_number : Prints (program 23
    (taking (at 0x1002 ∷ []) (entry 0x1002 (constant_of 0x1003) ∷ entry 0x1003 (plain I32) ∷ []))) (codes "f")
    (codes "f(const int)")
unfolding type_at type_size digits
constant_number = printing-does refl

-- a type of a kind that is not printed
pub unhandled : Prints (program 23 (taking (at 0x1002 ∷ []) (entry 0x1002 (Other (codes "K")) ∷ []))) (codes "f")
    (codes "f(unhandled type /* K */)")
unfolding type_at type_size digits
unhandled = printing-does refl

-- a type that is missing
pub missing_argument : Prints (program 23 (taking (at 0x2000 ∷ []) [])) (codes "f") (codes "f(<missing type 0x2000>)")
unfolding type_at type_size digits
missing_argument = printing-does refl

-- a pointer to a type that is missing
pub missing_target : Prints (program 23 (taking (at 0x1002 ∷ []) (entry 0x1002 (pointer_to 0x2000) ∷ []))) (codes "f")
    (codes "f(<missing type 0x2000>)")
unfolding type_at type_size digits
missing_target = printing-does refl

-- a type of a kind that the reader of the records doesn't know
pub unknown_kind : Prints (program 23
    (taking (at 0x1002 ∷ []) (record { index = at 0x1002; content = Err (UnimplementedTypeKind 0x1234) } ∷ [])))
    (codes "f") (codes "f(<unimplemented type kind 0x1234>)")
unfolding type_at type_size digits
unknown_kind = printing-does refl

-- a pointer to such a type
pub unknown_target : Fails (program 23
    (taking (at 0x1002 ∷ []) (entry 0x1002 (pointer_to 0x1003) ∷ record
    { index = at 0x1003; content = Err (UnimplementedTypeKind 0x1234) } ∷ []))) (codes "f") (codes "f(")
    (Plain (PdbError (UnimplementedTypeKind 0x1234)))
unfolding type_at type_size digits
unknown_target = printing-does refl

-- a pointer to itself
pub pointer_to_itself : Fails (program 23 (taking (at 0x1002 ∷ []) (entry 0x1002 (pointer_to 0x1002) ∷ [])))
    (codes "f") (codes "f(") (Plain (CircularTypeDefinition 0x1002))
unfolding type_at type_size digits
pointer_to_itself = printing-does refl

-- a modifier of itself
pub modifier_of_itself : Fails (program 23 (taking (at 0x1002 ∷ []) (entry 0x1002 (constant_of 0x1002) ∷ [])))
    (codes "f") (codes "f(") (Plain (CircularTypeDefinition 0x1002))
unfolding type_at type_size digits
modifier_of_itself = printing-does refl

-- an array of itself
pub array_of_itself : Fails (program 23 (taking (at 0x1002 ∷ []) (entry 0x1002 (array_of 0x1002 8) ∷ []))) (codes "f")
    (codes "f(") (Plain (CircularTypeDefinition 0x1002))
unfolding type_at type_size digits
array_of_itself = printing-does refl

-- a method whose `this` points to a constant class
pub constant_method : Prints (program 23
    (method (Some (at 0x1002)) [] (entry 0x1002 (pointer_to 0x1005) ∷ entry 0x1005 (constant_of 0x1003) ∷ [])))
    (codes "C::get") (codes "C::get() const")
unfolding type_at type_size digits
constant_method = printing-does refl

-- the same, without arguments
pub no_arguments : Prints (program 55
    (method (Some (at 0x1002)) [] (entry 0x1002 (pointer_to 0x1005) ∷ entry 0x1005 (constant_of 0x1003) ∷ [])))
    (codes "C::get") (codes "C::get")
unfolding type_at type_size digits
no_arguments = printing-does refl

-- a method whose `this` points to something else
pub other_this : Prints (program 23
    (method (Some (at 0x1002)) [] (entry 0x1002 (pointer_to 0x1005) ∷ entry 0x1005 (plain I32) ∷ [])))
    (codes "C::get") (codes "C::get(int*)")
unfolding type_at type_size digits
other_this = printing-does refl

-- the same with an argument of its own
pub other_this_and_argument : Prints
    (program 23 (method (Some (at 0x1002)) (at 0x1005 ∷ [])
    (entry 0x1002 (pointer_to 0x1005) ∷ entry 0x1005 (plain I32) ∷ []))) (codes "C::get") (codes "C::get(int*, int)")
unfolding type_at type_size digits
other_this_and_argument = printing-does refl

-- a method without `this`, with what it returns, and without spaces
pub static_method : Prints (program 0 (method None (at 0x1004 ∷ at 0x1004 ∷ []) (entry 0x1004 (plain I32) ∷ [])))
    (codes "C::get") (codes "static int C::get(int,int)")
unfolding type_at type_size digits
static_method = printing-does refl

-- a struct whose name reads `S`, and a reference to it
pub structs : (named : List ℕ) → lossy named ≡ codes "S"
    → Prints (program 7 (taking (at 0x1002 ∷ at 0x1003 ∷ [])
    (entry 0x1002 (struct named) ∷ entry 0x1003 (pointing mode.LValueReference false 0x1002) ∷ []))) (codes "f")
    (codes "f(struct S, struct S&)")
unfolding type_at type_size digits
structs named is = printing-does (rw is refl)

-- the same without the word
pub struct_names : (named : List ℕ) → lossy named ≡ codes "S"
    → Prints (program 23 (taking (at 0x1002 ∷ at 0x1003 ∷ [])
    (entry 0x1002 (struct named) ∷ entry 0x1003 (pointing mode.LValueReference false 0x1002) ∷ []))) (codes "f")
    (codes "f(S, S&)")
unfolding type_at type_size digits
struct_names named is = printing-does (rw is refl)

-- a union, an enumeration and a value of one
pub other_words : (union enum variant : List ℕ) → lossy union ≡ codes "U" → lossy enum ≡ codes "E"
    → lossy variant ≡ codes "V" → Prints
    (program 7 (taking (at 0x1002 ∷ at 0x1003 ∷ at 0x1004 ∷ [])
    (entry 0x1002 (Union (record { name = union; unique_name = None; size = 4; forward_reference = false })) ∷ entry
    0x1003 (Enumeration (record { name = enum; underlying_type = at 0x1005 })) ∷ entry 0x1004
    (Enumerate (record { name = variant; value = value.U8 1 })) ∷ []))) (codes "f")
    (codes "f(union U, enum E, enum class V)")
unfolding type_at type_size digits
other_words union enum variant is0 is1 is2 = printing-does (rw (is0, is1, is2) refl)

-- a pointer to a method of a class
pub pointer_to_method : (named : List ℕ) → lossy named ≡ codes "C"
    → Prints (program 23 (taking (at 0x1002 ∷ [])
    (entry 0x1002 (pointing mode.MemberFunction false 0x1005) ∷ entry 0x1003 (struct named) ∷ entry 0x1004
    (plain I32) ∷ entry 0x1005 (method_of (Some (at 0x1006)) 0x1007) ∷ entry 0x1006 (pointer_to 0x1003) ∷ entry 0x1007
    (ArgumentList (at 0x1004 ∷ [])) ∷ []))) (codes "f") (codes "f(int (C::*)(int))")
unfolding type_at type_size digits
pointer_to_method named is = printing-does (rw is refl)

-- a method whose list of arguments is none
pub list_of_another_kind : Fails (program 23 (entry 0x1000 (method_of None 0x1001) ∷ entry 0x1001 (plain I32) ∷ []))
    (codes "C::get") (codes "C::get") (Plain ArgumentTypeNotArgumentList)
unfolding type_at type_size digits
list_of_another_kind = printing-does refl

-- a name without a type
pub name_alone : PrintingDoes (program 23 []) (codes "foo") 0 none_failed
    (record { text = codes "foo"; fault = None; failed = none_failed })
name_alone = printing-does refl

-- neither a name nor a type
pub nothing : PrintingDoes (program 23 []) [] 0 none_failed
    (record { text = codes "<name omitted>"; fault = None; failed = none_failed })
nothing = printing-does refl

-- no name, and a type that is no function
pub no_function : Prints (program 23 (entry 0x1000 (plain I32) ∷ [])) [] []
unfolding type_at type_size digits
no_function = printing-does refl

-- a type of another module, where the imports are broken: the first time they answer their own error
pub broken_imports : PrintingDoes (program 23 []) (codes "f") 0x8000_0000 none_failed
    (record {
      text = [];
      fault = Some (OfError (Plain (PdbError (Stream (record { 0 = 9 })))));
      failed =
          with_part none_failed (Imports 0);
    })
unfolding type_at type_size digits
broken_imports = printing-does refl

-- the same where they failed before
pub imports_failed_before : PrintingDoes (program 23 []) (codes "f") 0x8000_0000 (with_part none_failed (Imports 0))
    (record {
      text = [];
      fault = Some (OfError (Plain ModuleImportsUnsuccessful));
      failed =
          with_part (with_part none_failed (Imports 0)) (Imports 0);
    })
unfolding type_at type_size digits
imports_failed_before = printing-does refl
