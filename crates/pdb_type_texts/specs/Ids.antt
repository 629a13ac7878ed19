-- The rules for printing ids, each of them one step deep. The list `inside` has the indices of types that are open.
use Rattle.std.specs.Prelude.{ℕ, List, [], ◌∷◌, Option, Some, None, codes}
use Rattle.pdb_records.specs.Names.{lossy}
use Rattle.pdb_records.specs.declared.ids.FunctionId.{FunctionId}
use Rattle.pdb_records.specs.declared.ids.IdData.{IdData}
use Rattle.pdb_records.specs.declared.ids.IdData.TheVariants as id
use Rattle.pdb_records.specs.declared.ids.IdIndex.{IdIndex}
use Rattle.pdb_records.specs.declared.ids.MemberFunctionId.{MemberFunctionId}
use Rattle.pdb_records.specs.declared.types.TypeData.{TypeData}
use Rattle.pdb_records.specs.declared.types.TypeData.TheVariants.{MemberFunction, Procedure}
use Rattle.pdb_errors.specs.declared.error.Error.TheVariants.{FunctionIdIsNotProcedureType}
use Rattle.pdb_errors.specs.declared.error.Error.TheVariants.{MemberFunctionIdIsNotMemberFunctionType}
use Rattle.pdb_errors.specs.Errors.{Plain}
use Rattle.pdb_type_texts.specs.Functions.{returned_if_wanted, types_between, function_arguments}
use Rattle.pdb_type_texts.specs.Namespaces.{namespace_text}
use Rattle.pdb_type_texts.specs.declared.tasks.MethodForm.TheVariants.{Signature}
use Rattle.pdb_type_texts.specs.Plans.{Index, Id, MethodArguments, Plan, Later, ◌▸◌, written, failing, on_read}
use Rattle.pdb_type_texts.specs.Wording.{function_name, static_text, unhandled_scope_text}
use Rattle.pdb_type_texts.specs.PrintInputs.{PrintInputs}

-- the id of a method, by its type: its return type, the class, its name and its arguments
abbrev pub method_id : PrintInputs → MemberFunctionId → List ℕ → TypeData → Plan
method_id w method inside (MemberFunction m) =
    written (static_text w.flags m.this_pointer_type)
    ▸ returned_if_wanted w inside m.is_constructor (Some m.return_type)
    ▸ Later inside (Index method.parent.0)
    ▸ written (codes "::")
    ▸ written (function_name (lossy method.name))
    ▸ Later inside (MethodArguments m Signature)
method_id w method inside other = failing (Plain MemberFunctionIdIsNotMemberFunctionType)

-- the scope of a function and `::`; empty if it has none. The list `met` has the ids whose scope this is, directly or
-- through further scopes
abbrev pub scope : List ℕ → List ℕ → Option IdIndex → Plan
scope met inside None = written []
scope met inside (Some index) = Later inside (Id met index.0) ▸ written (codes "::")

-- the id of a function outside classes, by its type: its return type, its scope, its name and its arguments
abbrev pub function_id : PrintInputs → List ℕ → FunctionId → List ℕ → TypeData → Plan
function_id w met function inside (Procedure p) =
    returned_if_wanted w inside p.is_constructor p.return_type
    ▸ scope met inside function.scope
    ▸ written (function_name (lossy function.name))
    ▸ function_arguments w inside p.argument_list
function_id w met function inside other = failing (Plain FunctionIdIsNotProcedureType)

-- an id, by its kind; only the index of a function's type is open in it
abbrev pub id_by_kind : PrintInputs → List ℕ → IdData → Plan
id_by_kind w met (id.MemberFunction method) =
    on_read (w.read method.function_type.0) (method_id w method (method.function_type.0 ∷ []))
id_by_kind w met (id.Function function) =
    on_read (w.read function.function_type.0) (function_id w met function (function.function_type.0 ∷ []))
id_by_kind w met (id.String string) = written (namespace_text (lossy string.name))
id_by_kind w met (id.StringList substrings) =
    written (codes "\"") ▸ types_between (codes "\" \"") [] substrings ▸ written (codes "\"")
id_by_kind w met (id.Other kind) = written (unhandled_scope_text kind)

-- the id of this index, outside of other ids
abbrev pub id_of_index : ℕ → Plan
id_of_index index = Later [] (Id [] index)
