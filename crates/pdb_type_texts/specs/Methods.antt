-- The arguments of methods. The list `inside` has the indices of types that are open.
use Rattle.std.specs.Prelude.{◌==◌, ℕ, Bool, true, false, List, [], ◌∷◌, Option}
use Rattle.std.specs.Prelude.{Some, None, Result, Ok, codes, if◌then◌else◌}
use Rattle.pdb_records.specs.declared.types.TypeIndex.{TypeIndex}
use Rattle.pdb_records.specs.declared.types.MemberFunctionType.{MemberFunctionType}
use Rattle.pdb_records.specs.declared.types.TypeData.{TypeData}
use Rattle.pdb_records.specs.declared.types.TypeData.TheVariants.{Pointer, Modifier, ArgumentList}
use Rattle.pdb_errors.specs.declared.error.Error.TheVariants.{ArgumentTypeNotArgumentList}
use Rattle.pdb_errors.specs.Errors.{Plain}
use Rattle.pdb_errors.specs.Outcomes.{and_then}
use Rattle.pdb_types.specs.ReadError.{ReadErrorView}
use Rattle.pdb_type_texts.specs.declared.tasks.MethodForm.{MethodForm}
use Rattle.pdb_type_texts.specs.declared.tasks.MethodForm.TheVariants.{Signature}
use Rattle.pdb_type_texts.specs.declared.this.ThisParameter.{ThisParameter}
use Rattle.pdb_type_texts.specs.FlagTests.{without_arguments}
use Rattle.pdb_type_texts.specs.Functions.{list_of_arguments}
use Rattle.pdb_type_texts.specs.PrintInputs.{PrintInputs}
use Rattle.pdb_type_texts.specs.Plans.{Plan, ◌▸◌, written, failing, on_read, opening}

-- a method's `this` that only tells whether the method is constant
abbrev pub plain_this : Bool → ThisParameter
plain_this constant = record { constant = constant; argument = None }

-- a method's `this` that is printed as its first argument
abbrev pub printed_this : TypeIndex → ThisParameter
printed_this this = record { constant = false; argument = Some this }

-- a method's `this` by its target: a modifier of the class tells whether the method is constant; otherwise `this` is an
-- argument
abbrev pub this_by_target : TypeIndex → TypeIndex → TypeData → ThisParameter
this_by_target class this (Modifier m) =
    if m.underlying_type.0 == class.0 then plain_this m.constant else printed_this this
this_by_target class this other = printed_this this

-- a method's `this` by its type: with a pointer to the class the method isn't constant; another pointer is decided by
-- its target; otherwise `this` is an argument
abbrev pub this_by_type : PrintInputs → TypeIndex → TypeIndex → TypeData → Result ThisParameter ReadErrorView
this_by_type w class this (Pointer p) =
    if p.underlying_type.0 == class.0 then Ok (plain_this false)
    else and_then (w.read p.underlying_type.0) (λ target. Ok (this_by_target class this target))
this_by_type w class this other = Ok (printed_this this)

-- a method's `this`, if there is one
abbrev pub this_of : PrintInputs → TypeIndex → Option TypeIndex → Result ThisParameter ReadErrorView
this_of w class None = Ok (plain_this false)
this_of w class (Some this) = and_then (w.read this.0) (this_by_type w class this)

-- a list of arguments, after `this` if that is an argument
abbrev pub arguments_behind : Option TypeIndex → List TypeIndex → List TypeIndex
arguments_behind None list = list
arguments_behind (Some this) list = this ∷ list

-- the text after a method's arguments, with `const` in the signature of a constant method
abbrev pub closing : MethodForm → Bool → List ℕ
closing Signature true = codes ") const"
closing form constant = codes ")"

-- a method's arguments in parentheses, and `const` after them in the signature of a constant method
abbrev pub method_list : PrintInputs → List ℕ → MethodForm → List TypeIndex → ThisParameter → Plan
method_list w inside form list this =
    written (codes "(")
    ▸ list_of_arguments w inside (arguments_behind this.argument list)
    ▸ written (closing form this.constant)

-- the plan after the type of a method's argument list was read
abbrev pub on_list : PrintInputs → MemberFunctionType → MethodForm → List ℕ → TypeData → Plan
on_list w m form inside (ArgumentList list) =
    on_read (this_of w m.class_type m.this_pointer_type) (method_list w inside form list)
on_list w m form inside other = failing (Plain ArgumentTypeNotArgumentList)

-- a method's arguments, unless the flags leave them out; then nothing is read
abbrev pub method_arguments : PrintInputs → List ℕ → MemberFunctionType → MethodForm → Plan
method_arguments w inside m form =
    if without_arguments w.flags then written [] else opening w inside m.argument_list.0 (on_list w m form)
