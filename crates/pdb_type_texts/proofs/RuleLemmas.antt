-- What each rule leaves to be printed comes earlier: either fewer indices are free to open, or as many and the task
-- ranks lower.
use Rattle.std.proofs.Common.{◌≡◌, ℕ, ◌+◌, ◌<◌, ◌≤◌, ◌⊎◌, true, false, cond, List, [], ◌∷◌, refl}
use Rattle.std.specs.Prelude.{Option, Some, None, Result, Ok, Err}
use Rattle.pdb_records.specs.declared.types.TypeIndex.{TypeIndex}
use Rattle.pdb_records.specs.declared.types.MemberFunctionType.{MemberFunctionType}
use Rattle.pdb_records.specs.declared.ids.IdData.{IdData}
use Rattle.pdb_records.specs.declared.types.TypeData.{TypeData}
use Rattle.pdb_records.specs.declared.types.TypeData.TheVariants.{Array, ArgumentList}
use Rattle.pdb_type_texts.specs.FlagTests.{without_arguments}
use Rattle.pdb_types.specs.ReadError.{ReadErrorView}
use Rattle.pdb_type_texts.specs.PrintInputs.{PrintInputs}
use Rattle.pdb_type_texts.specs.Plans.{Task, Index, OfType, MethodArguments, Chain, BehindModifier, Modified, Elements}
use Rattle.pdb_type_texts.specs.Plans.{Id, Plan, Done, Later, Seq, Buffered, Catch, written, circular, is_among, on_read}
use Rattle.pdb_type_texts.specs.Plans.{on_printed, opened, opening}
use Rattle.pdb_type_texts.specs.Functions.{returned, further_types, types_between}
use Rattle.pdb_type_texts.specs.declared.tasks.MethodForm.{MethodForm}
use Rattle.pdb_type_texts.specs.Methods.{arguments_behind, this_of, method_list, on_list, method_arguments}
use Rattle.pdb_type_texts.specs.Wording.{comma}
use Rattle.pdb_type_texts.proofs.FreeLemmas.{free, free_lt}

-- a claim holds of each task that a plan leaves to be printed
abbrev pub EachTask : (List ℕ → Task → Type 0) → Plan → Type 0
EachTask P (Done d) = Unit {0}
EachTask P (Later inside task) = P inside task
EachTask P (Seq p q) = EachTask P p × EachTask P q
EachTask P (Buffered p after_sigil after_other) = EachTask P p
EachTask P (Catch p) = EachTask P p

-- only indices below a bound lead to types and to ids
pub record IsBelow (n : ℕ) (w : PrintInputs) : Type 0 where
  pub types : (i : ℕ) (type : TypeData) → w.read i ≡ Ok type → i < n
  pub ids : (i : ℕ) (id : IdData) → w.read_id i ≡ Ok id → i < n

-- the rank of a task among those with the same indices open
abbrev pub rank : ℕ → Task → ℕ
rank n (Index i) = 0
rank n (OfType (Array a)) = n + 3
rank n (OfType type) = 1
rank n (MethodArguments m form) = 0
rank n (Chain attributes target) = 0
rank n (BehindModifier attributes target) = 0
rank n (Modified constant target) = 0
rank n (Elements elements levels next) = 2 + free n elements
rank n (Id met index) = free n met

-- how much room a task has: as many indices of types as are free to open, and an id has more
abbrev pub room : ℕ → List ℕ → Task → ℕ
room n inside (Id met index) = n + 1
room n inside other = free n inside

-- one place comes before another: there is less room, or as much and the task ranks lower
abbrev pub Before : ℕ → List ℕ → Task → List ℕ → Task → Type 0
Before n inside task inside' task' = (room n inside' task' < room n inside task) ⊎
    ((room n inside' task' ≤ room n inside task) × (rank n task' < rank n task))

-- what follows what is needed
pub on_read-each : {A : Type 0} → (P : List ℕ → Task → Type 0) (read : Result A ReadErrorView) (next : A → Plan)
    → ((answer : A) → read ≡ Ok answer → EachTask P (next answer)) → EachTask P (on_read read next)
on_read-each P (Ok answer) next each = each answer refl
on_read-each P (Err read_error_view) next each = tt

-- what follows what is printed where it stands
pub on_printed-each : {A : Type 0} → (P : List ℕ → Task → Type 0) (read : Result A ReadErrorView) (next : A → Plan)
    → ((answer : A) → read ≡ Ok answer → EachTask P (next answer)) → EachTask P (on_printed read next)
on_printed-each P (Ok answer) next each = each answer refl
on_printed-each P (Err read_error_view) next each = tt

-- an index that opens
pub opened-each : (P : List ℕ → Task → Type 0) (inside : List ℕ) (i : ℕ) (plan : Plan)
    → (is_among i inside ≡ false → EachTask P plan) → EachTask P (opened inside i plan)
opened-each P inside i plan each =
    (elim (is_among i inside) as (λ b. is_among i inside ≡ b
    → EachTask P (cond b (circular i) plan)) [ true ↦ λ e. tt | false ↦ λ e. each e ]) refl

-- an index that opens and is read: less is free after it
pub opening-each : (n : ℕ) (w : PrintInputs) → IsBelow n w
    → (P : List ℕ → Task → Type 0) (inside : List ℕ) (i : ℕ) (next : List ℕ → TypeData → Plan)
    → ((type : TypeData) → free n (i ∷ inside) < free n inside → EachTask P (next (i ∷ inside) type))
    → EachTask P (opening w inside i next)
opening-each n w below P inside i next each =
    opened-each P inside i (on_read (w.read i) (next (i ∷ inside)))
    (λ absent. on_read-each P (w.read i) (next (i ∷ inside))
    (λ type found. each type (free_lt n i inside (below.types i type found) absent)))

-- the type that a function returns
pub returned-each : (P : List ℕ → Task → Type 0) (inside : List ℕ) (index : Option TypeIndex)
    → ((i : ℕ) → P inside (Index i)) → EachTask P (returned inside index)
returned-each P inside None each = tt
returned-each P inside (Some index) each = (each index.0, tt)

-- further types
pub further_types-each : (P : List ℕ → Task → Type 0) (separator inside : List ℕ) (list : List TypeIndex)
    → ((i : ℕ) → P inside (Index i)) → EachTask P (further_types separator inside list)
further_types-each P separator inside [] each = tt
further_types-each P separator inside (next ∷ rest) each =
    (tt, (each next.0, further_types-each P separator inside rest each))

-- types with a separator between them
pub types_between-each : (P : List ℕ → Task → Type 0) (separator inside : List ℕ) (list : List TypeIndex)
    → ((i : ℕ) → P inside (Index i)) → EachTask P (types_between separator inside list)
types_between-each P separator inside [] each = tt
types_between-each P separator inside (next ∷ rest) each =
    (each next.0, further_types-each P separator inside rest each)

-- a method's list of arguments
pub on_list-each : (P : List ℕ → Task → Type 0) (w : PrintInputs) (m : MemberFunctionType) (form : MethodForm)
    (inside : List ℕ) (type : TypeData) → ((i : ℕ) → P inside (Index i))
    → EachTask P (on_list w m form inside type)
on_list-each P w m form inside (ArgumentList list) each =
    on_read-each P (this_of w m.class_type m.this_pointer_type) (method_list w inside form list)
    (λ this found. (tt, (types_between-each P (comma w.flags) inside (arguments_behind this.argument list) each, tt)))
on_list-each P w m form inside other each = tt

-- a method's arguments
pub method_arguments-each : (n : ℕ) (w : PrintInputs) → IsBelow n w
    → (P : List ℕ → Task → Type 0) (inside : List ℕ) (m : MemberFunctionType) (form : MethodForm)
    → ((further : List ℕ) (i : ℕ) → free n further < free n inside → P further (Index i))
    → EachTask P (method_arguments w inside m form)
method_arguments-each n w below P inside m form each =
    elim (without_arguments w.flags) as (λ b. EachTask P
    (cond b (written []) (opening w inside m.argument_list.0 (on_list w m form)))) [
      | true ↦ tt
      | false ↦ opening-each n w below P inside m.argument_list.0 (on_list w m form)
          (λ type less. on_list-each P w m form (m.argument_list.0 ∷ inside) type
          (λ i. each (m.argument_list.0 ∷ inside) i less))
    ]
