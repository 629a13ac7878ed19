-- Each rule leaves only tasks that come before its own.
use Rattle.std.proofs.Common.{ℕ, ◌+◌, ◌<◌, ◌≤◌, inl, inr, Bool, false, List, [], ◌∷◌, ◌++◌, arith}
use Rattle.std.specs.Prelude.{Option, Some, None}
use Rattle.std.specs.BTreeSet.{insert_key}
use Rattle.std.specs.Ordering.{nat_cmp}
use Rattle.pdb_records.specs.declared.types.TypeData.{TypeData}
use Rattle.pdb_records.specs.declared.types.TypeData.TheVariants.{Primitive, MemberFunction, Procedure, Pointer}
use Rattle.pdb_records.specs.declared.types.TypeData.TheVariants.{Array, Modifier, ArgumentList}
use Rattle.pdb_types.specs.declared.read_error.Part.{Part}
use Rattle.pdb_type_texts.specs.Wording.{comma}
use Rattle.pdb_type_texts.specs.declared.tasks.MethodForm.TheVariants.{TypeName}
use Rattle.pdb_type_texts.specs.Attributes.{Attribute, attribute_of, with_target}
use Rattle.pdb_type_texts.specs.PrintInputs.{PrintInputs}
use Rattle.pdb_type_texts.specs.Plans.{Task, Index, OfType, MethodArguments, Chain, BehindModifier, Modified, Elements}
use Rattle.pdb_type_texts.specs.Plans.{Id, Plan, met_before}
use Rattle.pdb_type_texts.specs.Rules.{chain_end, behind_modifier, behind_pointer, element, modified, by_kind, rule}
use Rattle.pdb_type_texts.proofs.FreeLemmas.{free, free_lt, free-inserted, free_at_most}
use Rattle.pdb_type_texts.proofs.IdLemmas.{id_by_kind-each}
use Rattle.pdb_type_texts.proofs.RuleLemmas.{EachTask, IsBelow, Before, room, rank, on_read-each, on_printed-each}
use Rattle.pdb_type_texts.proofs.RuleLemmas.{opened-each, opening-each, returned-each, types_between-each}
use Rattle.pdb_type_texts.proofs.RuleLemmas.{method_arguments-each}

-- the end of a chain of pointers
pub chain_end-each : (n : ℕ) (w : PrintInputs) (P : List ℕ → Task → Type 0) (attributes : List Attribute)
    (inside : List ℕ) (type : TypeData)
    → ((further : List ℕ) (task : Task) → room n further task ≤ free n inside → P further task)
    → EachTask P (chain_end w attributes inside type)
chain_end-each n w P attributes inside (MemberFunction m) each =
    let here : (task : Task) → room n inside task ≤ free n inside → P inside task = each inside in (
      returned-each P inside _ (λ i. here (Index i) (omega arith)),
      (
        tt,
        (
          here (Index m.class_type.0) (omega arith),
          (tt, (tt, here (MethodArguments m TypeName) (omega arith))),
        ),
      ),
    )
chain_end-each n w P attributes inside (Procedure p) each =
    let here : (i : ℕ) → P inside (Index i) = λ i. each inside (Index i) (omega arith) in
    (returned-each P inside _ here, (tt, (tt, (tt, (here p.argument_list.0, tt)))))
chain_end-each n w P attributes inside other each = each inside (OfType other) (omega arith)

-- what follows a modifier in a chain of pointers
pub behind_modifier-each : (n : ℕ) (w : PrintInputs) (P : List ℕ → Task → Type 0) (attributes : List Attribute)
    (inside : List ℕ) (type : TypeData)
    → ((further : List ℕ) (task : Task) → room n further task ≤ free n inside → P further task)
    → EachTask P (behind_modifier w attributes inside type)
behind_modifier-each n w P attributes inside (Pointer p) each =
    each inside (Chain (attribute_of p false ∷ attributes) p.underlying_type.0) (omega arith)
behind_modifier-each n w P attributes inside other each = chain_end-each n w P attributes inside other each

-- what follows a pointer in a chain of pointers
pub behind_pointer-each : (n : ℕ) (w : PrintInputs) (P : List ℕ → Task → Type 0) (attributes : List Attribute)
    (inside : List ℕ) (type : TypeData)
    → ((further : List ℕ) (task : Task) → room n further task ≤ free n inside → P further task)
    → EachTask P (behind_pointer w attributes inside type)
behind_pointer-each n w P attributes inside (Pointer p) each =
    each inside (Chain (attribute_of p false ∷ attributes) p.underlying_type.0) (omega arith)
behind_pointer-each n w P attributes inside (Modifier m) each =
    each inside (BehindModifier (with_target m.constant attributes) m.underlying_type.0) (omega arith)
behind_pointer-each n w P attributes inside other each = chain_end-each n w P attributes inside other each

-- the target of a modifier
pub modified-each : (n : ℕ) (w : PrintInputs) (P : List ℕ → Task → Type 0) (constant : Bool) (inside : List ℕ)
    (type : TypeData) → ((task : Task) → room n inside task ≤ free n inside → P inside task)
    → EachTask P (modified w constant inside type)
modified-each n w P constant inside (Pointer p) each = each (Chain (attribute_of p constant ∷ []) p.underlying_type.0)
    (omega arith)
modified-each n w P constant inside (Primitive p) each = tt
modified-each n w P constant inside other each = (tt, each (OfType other) (omega arith))

-- a part that is met on the way leaves nothing to be printed
pub met_before-each : (P : List ℕ → Task → Type 0) (met : Option Part) (plan : Plan) → EachTask P plan
    → EachTask P (met_before met plan)
met_before-each P None plan each = each
met_before-each P (Some part) plan each = (tt, each)

-- an element of an array
pub element-each : (n : ℕ) (w : PrintInputs) (P : List ℕ → Task → Type 0) (inside elements levels : List ℕ)
    (index : ℕ) (type : TypeData)
    → ((task : Task) → room n inside task ≤ free n inside → rank n task < 2 + free n elements → P inside task)
    → free n (insert_key nat_cmp elements index) < free n elements
    → EachTask P (element w inside elements levels index type)
element-each n w P inside elements levels index (Array a) each less =
    each (Elements (insert_key nat_cmp elements index) (levels ++ a.first ∷ []) a.element_type.0) (omega arith)
    (omega arith)
element-each n w P inside elements levels index other each less =
    met_before-each P (w.size index).met _ (each (OfType other) (omega arith) (omega arith), tt)

-- a type, by its kind
pub by_kind-each : (n : ℕ) (w : PrintInputs) (inside : List ℕ) (type : TypeData)
    → EachTask (Before n inside (OfType type)) (by_kind w inside type)
by_kind-each n w inside (MemberFunction m) =
    (returned-each _ inside _ (λ i. inr (omega arith, omega arith)), (tt, inr (omega arith, omega arith)))
by_kind-each n w inside (Procedure p) =
    (returned-each _ inside _ (λ i. inr (omega arith, omega arith)), (tt, inr (omega arith, omega arith)))
by_kind-each n w inside (ArgumentList list) =
    types_between-each _ (comma w.flags) inside list (λ i. inr (omega arith, omega arith))
by_kind-each n w inside (Pointer p) = inr (omega arith, omega arith)
by_kind-each n w inside (Array a) = inr (omega arith, omega (arith, free_at_most n []))
by_kind-each n w inside (Modifier m) = inr (omega arith, omega arith)
by_kind-each n w inside other = tt

-- each rule leaves only tasks that come before its own
pub rule-each : (n : ℕ) (w : PrintInputs) → IsBelow n w → (inside : List ℕ) (task : Task)
    → EachTask (Before n inside task) (rule w inside task)
rule-each n w below inside (Index i) = on_printed-each _ (w.read i) _ (λ type found.
    opened-each _ inside i _ (λ absent. inl (free_lt n i inside (below.types i type found) absent)))
rule-each n w below inside (OfType type) = by_kind-each n w inside type
rule-each n w below inside (MethodArguments m form) =
    method_arguments-each n w below _ inside m form (λ further i less. inl less)
rule-each n w below inside (Chain attributes target) =
    opening-each n w below _ inside target (behind_pointer w attributes) (λ type less.
    behind_pointer-each n w _ attributes _ type (λ further task within. inl (omega arith)))
rule-each n w below inside (BehindModifier attributes target) =
    opening-each n w below _ inside target (behind_modifier w attributes) (λ type less.
    behind_modifier-each n w _ attributes _ type (λ further task within. inl (omega arith)))
rule-each n w below inside (Modified constant target) =
    opening-each n w below _ inside target (modified w constant) (λ type less.
    modified-each n w (Before n inside (Modified constant target)) constant _ type (λ task within. inl (omega arith)))
rule-each n w below inside (Elements elements levels next) = opened-each _ elements next _ (λ absent.
    on_read-each _ (w.read next) _ (λ type found. element-each n w _ inside elements levels next type
    (λ task within lower. inr (within, lower)) (free-inserted n next elements (below.types next type found) absent)))
rule-each n w below inside (Id met index) = opened-each _ met index _ (λ absent.
    on_printed-each _ (w.read_id index) _ (λ id found. id_by_kind-each n w _ (insert_key nat_cmp met index) id
    (λ further task within. inl (omega arith))
    (λ further i. inr (omega arith, free-inserted n index met (below.ids index id found) absent))))
