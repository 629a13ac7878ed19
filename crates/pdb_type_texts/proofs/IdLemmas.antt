-- What the rules of ids leave to be printed.
use Rattle.std.proofs.Common.{ℕ, ◌≤◌, true, false, cond, List, [], ◌∷◌}
use Rattle.std.specs.Prelude.{Option, Some, None, codes}
use Rattle.pdb_records.specs.declared.ids.FunctionId.{FunctionId}
use Rattle.pdb_records.specs.declared.ids.IdData.{IdData}
use Rattle.pdb_records.specs.declared.ids.IdData.TheVariants as id
use Rattle.pdb_records.specs.declared.ids.IdIndex.{IdIndex}
use Rattle.pdb_records.specs.declared.ids.MemberFunctionId.{MemberFunctionId}
use Rattle.pdb_records.specs.declared.types.TypeIndex.{TypeIndex}
use Rattle.pdb_records.specs.declared.types.MemberFunctionType.{MemberFunctionType}
use Rattle.pdb_records.specs.declared.types.TypeData.{TypeData}
use Rattle.pdb_records.specs.declared.types.TypeData.TheVariants.{MemberFunction, Procedure}
use Rattle.pdb_type_texts.specs.FlagTests.{without_arguments}
use Rattle.pdb_type_texts.specs.Functions.{function_arguments}
use Rattle.pdb_type_texts.specs.Ids.{method_id, scope, function_id, id_by_kind}
use Rattle.pdb_type_texts.specs.declared.tasks.MethodForm.TheVariants.{Signature}
use Rattle.pdb_type_texts.specs.Plans.{Task, Index, MethodArguments, Id, Later, ◌▸◌, written}
use Rattle.pdb_type_texts.specs.PrintInputs.{PrintInputs}
use Rattle.pdb_type_texts.proofs.FreeLemmas.{free_at_most}
use Rattle.pdb_type_texts.proofs.RuleLemmas.{EachTask, room, on_read-each, returned-each, types_between-each}

-- a function's arguments
function_arguments-each : (P : List ℕ → Task → Type 0) (w : PrintInputs) (inside : List ℕ) (list : TypeIndex)
    → P inside (Index list.0) → EachTask P (function_arguments w inside list)
function_arguments-each P w inside list each =
    elim (without_arguments w.flags) as (λ b. EachTask P
    (cond b (written []) (written (codes "(") ▸ Later inside (Index list.0) ▸ written (codes ")"))))
    [ true ↦ tt | false ↦ (tt, (each, tt)) ]

-- a function of a class
method_id-each : (P : List ℕ → Task → Type 0) (w : PrintInputs) (method : MemberFunctionId) (inside : List ℕ)
    (type : TypeData) → ((i : ℕ) → P inside (Index i))
    → ((m : MemberFunctionType) → P inside (MethodArguments m Signature)) → EachTask P (method_id w method inside type)
method_id-each P w method inside (MemberFunction m) index arguments =
    (tt, (returned-each P inside _ index, (index method.parent.0, (tt, (tt, arguments m)))))
method_id-each P w method inside other index arguments = tt

-- the scope of a function
scope-each : (P : List ℕ → Task → Type 0) (met inside : List ℕ) (index : Option IdIndex)
    → ((i : ℕ) → P inside (Id met i)) → EachTask P (scope met inside index)
scope-each P met inside None each = tt
scope-each P met inside (Some index) each = (each index.0, tt)

-- a function of no class
function_id-each : (P : List ℕ → Task → Type 0) (w : PrintInputs) (met : List ℕ) (function : FunctionId)
    (inside : List ℕ) (type : TypeData) → ((i : ℕ) → P inside (Index i)) → ((i : ℕ) → P inside (Id met i))
    → EachTask P (function_id w met function inside type)
function_id-each P w met function inside (Procedure p) index id = (
  returned-each P inside _ index,
  (scope-each P met inside _ id, (tt, function_arguments-each P w inside _ (index p.argument_list.0))),
)
function_id-each P w met function inside other index id = tt

-- an id, by its kind: it leaves types with the room that they have, and its scope, of which these ids were met
pub id_by_kind-each : (n : ℕ) (w : PrintInputs) (P : List ℕ → Task → Type 0) (met : List ℕ) (content : IdData)
    → ((further : List ℕ) (task : Task) → room n further task ≤ n → P further task)
    → ((further : List ℕ) (i : ℕ) → P further (Id met i)) → EachTask P (id_by_kind w met content)
id_by_kind-each n w P met (id.MemberFunction method) type scope =
    let inside = method.function_type.0 ∷ [] in
    on_read-each P (w.read method.function_type.0) _ (λ found is. method_id-each P w method inside found
    (λ i. type inside (Index i) (free_at_most n inside))
    (λ m. type inside (MethodArguments m Signature) (free_at_most n inside)))
id_by_kind-each n w P met (id.Function function) type scope =
    let inside = function.function_type.0 ∷ [] in
    on_read-each P (w.read function.function_type.0) _ (λ found is. function_id-each P w met function inside found
    (λ i. type inside (Index i) (free_at_most n inside)) (scope inside))
id_by_kind-each n w P met (id.StringList substrings) type scope =
    (tt, (types_between-each P (codes "\" \"") [] substrings (λ i. type [] (Index i) (free_at_most n [])), tt))
id_by_kind-each n w P met other type scope = tt
