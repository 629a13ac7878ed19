-- Ids for small lists of records, as they are printed.
use Rattle.std.proofs.Common.{◌≡◌, ℕ, List, [], ◌∷◌, refl}
use Rattle.std.specs.Prelude.{Option, Some, None, Ok, codes}
use Rattle.std.specs.Fmt.{digits}
use Rattle.pdb_records.specs.Names.{lossy}
use Rattle.pdb_records.specs.declared.error.Error.TheVariants.{Stream}
use Rattle.pdb_records.specs.declared.ids.IdData.{IdData}
use Rattle.pdb_records.specs.declared.ids.IdData.TheVariants as id
use Rattle.pdb_records.specs.declared.ids.IdIndex.{IdIndex}
use Rattle.pdb_records.specs.declared.types.Item.{Item}
use Rattle.pdb_records.specs.declared.types.TypeIndex.{TypeIndex}
use Rattle.pdb_records.specs.declared.types.TypeData.{TypeData}
use Rattle.pdb_records.specs.declared.types.TypeData.TheVariants.{ArgumentList}
use Rattle.pdb_records.specs.declared.types.PrimitiveKind.TheVariants.{RChar, I32}
use Rattle.pdb_errors.specs.declared.error.Error.TheVariants.{CircularTypeDefinition, PdbError}
use Rattle.pdb_errors.specs.declared.error.Error.TheVariants.{FunctionIdIsNotProcedureType}
use Rattle.pdb_errors.specs.declared.error.Error.TheVariants.{MemberFunctionIdIsNotMemberFunctionType}
use Rattle.pdb_types.specs.declared.read_error.Part.TheVariants.{Imports}
use Rattle.pdb_errors.specs.Errors.{Plain}
use Rattle.pdb_types.specs.FailedParts.{with_part}
use Rattle.pdb_types.specs.TypeSizes.{type_size}
use Rattle.pdb_type_texts.specs.Documents.{PrintError, Run, OfError}
use Rattle.pdb_type_texts.specs.Documents as document
use Rattle.pdb_type_texts.specs.Ids.{id_of_index}
use Rattle.pdb_type_texts.specs.PrintInputs.{PrintInputs, print_inputs_of, type_at, id_at}
use Rattle.pdb_type_texts.specs.Unfolding.{Runs}
use Rattle.pdb_type_texts.proofs.Expansion.{run-expanded, run-each}
use Rattle.pdb_type_texts.proofs.SignatureExamples.{none_failed, at, entry, plain, pointer_to, constant_of, struct}
use Rattle.pdb_type_texts.proofs.SignatureExamples.{function_of, method_of, link_inputs}

-- the id with this number
abbrev pub id_at_number : ℕ → IdIndex
id_at_number number = record { 0 = number }

-- an entry of the ids
abbrev pub id_entry : ℕ → IdData → Item IdIndex IdData
id_entry number content = record { index = id_at_number number; content = Ok content }

-- a function that takes a number and returns it: the type 0x1000, by its scope and its name
abbrev pub function_in : Option IdIndex → List ℕ → IdData
function_in within named = id.Function (record { scope = within; function_type = at 0x1000; name = named })

-- a method of the struct 0x1003 with this type, by its name
abbrev pub method_by : ℕ → List ℕ → IdData
method_by type named = id.MemberFunction (record { parent = at 0x1003; function_type = at type; name = named })

-- a namespace, by its name
abbrev pub namespace : List ℕ → IdData
namespace named = id.String (record { name = named })

-- types: 0x1000 is a function that takes a number and returns it, 0x1005 a method of the struct 0x1003 whose `this` is
-- a pointer to a constant one
abbrev pub types : List ℕ → List (Item TypeIndex TypeData)
types struct_name =
    entry 0x1000 (function_of (Some (at 0x1004)) 0x1001)
    ∷ entry 0x1001 (ArgumentList (at 0x1004 ∷ []))
    ∷ entry 0x1002 (ArgumentList [])
    ∷ entry 0x1003 (struct struct_name)
    ∷ entry 0x1004 (plain I32)
    ∷ entry 0x1005 (method_of (Some (at 0x1006)) 0x1002)
    ∷ entry 0x1006 (pointer_to 0x1007)
    ∷ entry 0x1007 (constant_of 0x1003)
    ∷ entry 0x1008 (plain RChar)
    ∷ []

-- a program with these types and ids, printed with these flags
abbrev pub program : ℕ → List ℕ → List (Item IdIndex IdData) → PrintInputs
program flags struct_name items = print_inputs_of link_inputs (record { items = types struct_name; fault = None })
    (record { items = items; fault = None }) 8 (record { 0 = flags }) 0

-- printing the id of this number does this
pub record PrintingDoes (w : PrintInputs) (number : ℕ) (r : Run) : Type 0 where
  pub always : Runs w (id_of_index number) none_failed r

-- the same, by a document of at most this depth
pub printing-does : {w : PrintInputs} {number : ℕ} {r : Run}
    → run-expanded w 12 (id_of_index number) none_failed ≡ Some r → PrintingDoes w number r
printing-does {w} {number} {r} is = record { always = run-each w 12 (id_of_index number) none_failed r is }

-- the id 0x1001 is printed as this text
abbrev pub Prints : PrintInputs → List ℕ → Type 0
Prints w text = PrintingDoes w 0x1001 (record { text = text; fault = None; failed = none_failed })

-- the id 0x1001 is printed as far as this text, and then printing fails
abbrev pub Fails : PrintInputs → List ℕ → PrintError → Type 0
Fails w text failure = PrintingDoes w 0x1001 (record { text = text; fault = Some failure; failed = none_failed })

-- a function in no scope
pub function_alone : (g : List ℕ) → lossy g ≡ codes "g"
    → Prints (program 23 [] (id_entry 0x1001 (function_in None g) ∷ [])) (codes "g(int)")
unfolding type_at id_at type_size digits
function_alone g is = printing-does (rw is refl)

-- a function in a namespace, with what it returns
pub function_in_namespace : (g ns : List ℕ) → lossy g ≡ codes "g" → lossy ns ≡ codes "ns"
    → Prints (program 0 [] (id_entry 0x1001 (function_in (Some (id_at_number 0x1002)) g) ∷ id_entry 0x1002
    (namespace ns) ∷ [])) (codes "int ns::g(int)")
unfolding type_at id_at type_size digits
function_in_namespace g ns is0 is1 = printing-does (rw (is0, is1) refl)

-- a function in a namespace that has no name
pub function_in_anonymous_namespace : (g ns : List ℕ) → lossy g ≡ codes "g" → lossy ns ≡ codes "?A0x1f"
    → Prints (program 23 [] (id_entry 0x1001 (function_in (Some (id_at_number 0x1002)) g) ∷ id_entry 0x1002
    (namespace ns) ∷ [])) (codes "`anonymous namespace'::g(int)")
unfolding type_at id_at type_size digits
function_in_anonymous_namespace g ns is0 is1 = printing-does (rw (is0, is1) refl)

-- a namespace whose name only begins as one of those
pub no_number : (ns : List ℕ) → lossy ns ≡ codes "?A0x"
    → Prints (program 23 [] (id_entry 0x1001 (namespace ns) ∷ [])) (codes "?A0x")
unfolding type_at id_at type_size digits
no_number ns is = printing-does (rw is refl)

-- a number of 33 bits
pub number_too_large : (ns : List ℕ) → lossy ns ≡ codes "?A0x100000000"
    → Prints (program 23 [] (id_entry 0x1001 (namespace ns) ∷ [])) (codes "?A0x100000000")
unfolding type_at id_at type_size digits
number_too_large ns is = printing-does (rw is refl)

-- a function in a function in a namespace: each with its arguments
pub function_in_function : (g h ns : List ℕ) → lossy g ≡ codes "g" → lossy h ≡ codes "h" → lossy ns ≡ codes "ns"
    → Prints (program 23 [] (id_entry 0x1001 (function_in (Some (id_at_number 0x1002)) g) ∷ id_entry 0x1002
    (function_in (Some (id_at_number 0x1003)) h) ∷ id_entry 0x1003 (namespace ns) ∷ [])) (codes "ns::h(int)::g(int)")
unfolding type_at id_at type_size digits
function_in_function g h ns is0 is1 is2 = printing-does (rw (is0, is1, is2) refl)

-- a scope that is missing
pub missing_scope : (g : List ℕ) → lossy g ≡ codes "g"
    → Prints (program 23 [] (id_entry 0x1001 (function_in (Some (id_at_number 0x3000)) g) ∷ []))
    (codes "<missing type 0x3000>::g(int)")
unfolding type_at id_at type_size digits
missing_scope g is = printing-does (rw is refl)

-- a scope of another kind
pub unhandled_scope : (g : List ℕ) → lossy g ≡ codes "g"
    → Prints (program 23 [] (id_entry 0x1001 (function_in (Some (id_at_number 0x1002)) g) ∷ id_entry 0x1002
    (id.Other (codes "UserDefinedTypeSource")) ∷ [])) (codes "<unhandled id scope UserDefinedTypeSource>::::g(int)")
unfolding type_at id_at type_size digits
unhandled_scope g is = printing-does (rw is refl)

-- a method with its class
pub method_of_class : (get class : List ℕ) → lossy get ≡ codes "get" → lossy class ≡ codes "C"
    → Prints (program 23 class (id_entry 0x1001 (method_by 0x1005 get) ∷ [])) (codes "C::get() const")
unfolding type_at id_at type_size digits
method_of_class get class is0 is1 = printing-does (rw (is0, is1) refl)

-- texts
pub texts : Prints (program 23 [] (id_entry 0x1001 (id.StringList (at 0x1004 ∷ at 0x1008 ∷ [])) ∷ []))
    (codes "\"int\" \"char\"")
unfolding type_at id_at type_size digits
texts = printing-does refl

-- two functions that are each other's scopes
pub circular_scopes : (g h : List ℕ)
    → Fails (program 23 [] (id_entry 0x1001 (function_in (Some (id_at_number 0x1002)) g) ∷ id_entry 0x1002
    (function_in (Some (id_at_number 0x1001)) h) ∷ [])) [] (OfError (Plain (CircularTypeDefinition 0x1001)))
unfolding type_at id_at type_size digits
circular_scopes g h = printing-does refl

-- a function whose type is a struct
pub function_of_struct : (g : List ℕ)
    → Fails (program 23 [] (id_entry 0x1001
    (id.Function (record { scope = None; function_type = at 0x1003; name = g })) ∷ [])) []
    (OfError (Plain FunctionIdIsNotProcedureType))
unfolding type_at id_at type_size digits
function_of_struct g = printing-does refl

-- a method whose type is a procedure
pub method_of_procedure : (get : List ℕ)
    → Fails (program 23 [] (id_entry 0x1001 (method_by 0x1000 get) ∷ [])) []
    (OfError (Plain MemberFunctionIdIsNotMemberFunctionType))
unfolding type_at id_at type_size digits
method_of_procedure get = printing-does refl

-- a function whose type is missing fails for that, with no note of it
pub function_of_missing_type : (g : List ℕ)
    → Fails (program 23 [] (id_entry 0x1001
    (id.Function (record { scope = None; function_type = at 0x3000; name = g })) ∷ [])) []
    (document.TypeNotFound 0x3000)
unfolding type_at id_at type_size digits
function_of_missing_type g = printing-does refl

-- an id of another module, where the imports are broken
pub broken_imports : PrintingDoes (program 23 [] []) 0x8000_0000
    (record {
      text = [];
      fault = Some (OfError (Plain (PdbError (Stream (record { 0 = 9 })))));
      failed =
          with_part none_failed (Imports 0);
    })
unfolding type_at id_at type_size digits
broken_imports = printing-does refl
