-- Signatures of functions.
use Rattle.std.specs.Prelude.{ℕ, ◌==◌, List, [], ◌∷◌, Some, if◌then◌else◌}
use Rattle.pdb_records.specs.declared.types.TypeData.{TypeData}
use Rattle.pdb_records.specs.declared.types.TypeData.TheVariants.{MemberFunction, Procedure}
use Rattle.pdb_type_texts.specs.Wording.{function_name, static_text}
use Rattle.pdb_type_texts.specs.PrintInputs.{PrintInputs}
use Rattle.pdb_type_texts.specs.declared.tasks.MethodForm.TheVariants.{Signature}
use Rattle.pdb_type_texts.specs.Plans.{Index, MethodArguments, Plan, Later, ◌▸◌, written, on_read}
use Rattle.pdb_type_texts.specs.Functions.{returned_if_wanted, function_arguments}

-- the signature of a function with this name and type; if the type isn't a function's, the name alone
abbrev pub signature_by_type : PrintInputs → List ℕ → List ℕ → TypeData → Plan
signature_by_type w name inside (MemberFunction m) =
    written (static_text w.flags m.this_pointer_type)
    ▸ returned_if_wanted w inside m.is_constructor (Some m.return_type)
    ▸ written (function_name name)
    ▸ Later inside (MethodArguments m Signature)
signature_by_type w name inside (Procedure p) =
    returned_if_wanted w inside p.is_constructor p.return_type
    ▸ written (function_name name)
    ▸ function_arguments w inside p.argument_list
signature_by_type w name inside other = written name

-- the signature of a function with this name and the type of this index; index 0 means no type, and then it is the name
-- alone
abbrev pub signature : PrintInputs → List ℕ → ℕ → Plan
signature w name index =
    if index == 0 then written (function_name name) else on_read (w.read index) (signature_by_type w name (index ∷ []))

-- the type of this index, while these indices are open
abbrev pub type_of_index : List ℕ → ℕ → Plan
type_of_index inside index = Later inside (Index index)
