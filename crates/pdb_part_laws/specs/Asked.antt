-- The indices that printing looks up.
use Rattle.std.specs.Prelude.{◌≡◌, ⊤, ℕ, Bool, true, List, [], ◌∷◌, Option, Some, None, Ok}
use Rattle.std.specs.List.{AllByRecursion}
use Rattle.pdb_records.specs.declared.types.TypeIndex.{TypeIndex}
use Rattle.pdb_records.specs.declared.types.TypeData.{TypeData}
use Rattle.pdb_records.specs.declared.types.TypeData.TheVariants as type
use Rattle.pdb_records.specs.declared.ids.IdIndex.{IdIndex}
use Rattle.pdb_records.specs.declared.ids.IdData.{IdData}
use Rattle.pdb_records.specs.declared.ids.IdData.TheVariants as id
use Rattle.pdb_type_texts.specs.PrintInputs.{PrintInputs}
use Rattle.pdb_type_texts.specs.Plans.{Task, Index, OfType, MethodArguments, Chain, BehindModifier, Modified, Elements}
use Rattle.pdb_type_texts.specs.Plans.{Id, Plan, Done, Later, Seq, Buffered, Catch}

-- three sets of indices, each as a test: of types, of sizes and of ids
pub record Indices : Type 0 where
  pub types : ℕ → Bool
  pub sizes : ℕ → Bool
  pub ids : ℕ → Bool

-- two print inputs have the same flags, and the same type, size or id at each index of the sets
pub record AgreeAt (at : Indices) (w other : PrintInputs) : Type 0 where
  pub flags : w.flags ≡ other.flags
  pub types : (index : ℕ) → at.types index ≡ true → w.read index ≡ other.read index
  pub sizes : (index : ℕ) → at.sizes index ≡ true → w.size index ≡ other.size index
  pub ids : (index : ℕ) → at.ids index ≡ true → w.read_id index ≡ other.read_id index

-- a list of one value or of none
abbrev pub alone : {A : Type 0} → Option A → List A
alone None = []
alone (Some value) = value ∷ []

-- the types that printing a type may look up
abbrev pub types_behind : TypeData → List TypeIndex
types_behind (type.MemberFunction m) = m.return_type ∷ m.class_type ∷ m.argument_list ∷ alone m.this_pointer_type
types_behind (type.Procedure p) = p.argument_list ∷ alone p.return_type
types_behind (type.Pointer p) = p.underlying_type ∷ []
types_behind (type.Array a) = a.element_type ∷ []
types_behind (type.Modifier m) = m.underlying_type ∷ []
types_behind (type.ArgumentList list) = list
types_behind other = []

-- the sizes that printing a type may look up: that of an array's element
abbrev pub sizes_behind : TypeData → List TypeIndex
sizes_behind (type.Array a) = a.element_type ∷ []
sizes_behind other = []

-- the types that printing an id may look up
abbrev pub types_behind_id : IdData → List TypeIndex
types_behind_id (id.MemberFunction method) = method.function_type ∷ method.parent ∷ []
types_behind_id (id.Function function) = function.function_type ∷ []
types_behind_id (id.StringList substrings) = substrings
types_behind_id other = []

-- the ids that printing an id may look up: the scope of a function
abbrev pub ids_behind_id : IdData → List IdIndex
ids_behind_id (id.Function function) = alone function.scope
ids_behind_id other = []

-- each type index of a list is in a set
abbrev pub AreTypesIn : (ℕ → Bool) → List TypeIndex → Type 0
AreTypesIn is_in indices = AllByRecursion (λ index. is_in index.0 ≡ true) indices

-- each id index of a list is in a set
abbrev pub AreIdsIn : (ℕ → Bool) → List IdIndex → Type 0
AreIdsIn is_in indices = AllByRecursion (λ index. is_in index.0 ≡ true) indices

-- printing this type looks up only indices of the sets
pub record TypeAsksAt (at : Indices) (content : TypeData) : Type 0 where
  pub types : AreTypesIn at.types (types_behind content)
  pub sizes : AreTypesIn at.sizes (sizes_behind content)

-- printing this id looks up only indices of the sets
pub record IdAsksAt (at : Indices) (content : IdData) : Type 0 where
  pub types : AreTypesIn at.types (types_behind_id content)
  pub ids : AreIdsIn at.ids (ids_behind_id content)

-- no type or id at an index of the sets refers to an index outside them
pub record IsClosedAt (at : Indices) (w : PrintInputs) : Type 0 where
  pub types : (index : ℕ) (content : TypeData) → at.types index ≡ true → w.read index ≡ Ok content
      → TypeAsksAt at content
  pub ids : (index : ℕ) (content : IdData) → at.ids index ≡ true → w.read_id index ≡ Ok content → IdAsksAt at content

-- a task looks up only indices of the sets
abbrev pub TaskAsksAt : Indices → Task → Type 0
TaskAsksAt at (Index index) = at.types index ≡ true
TaskAsksAt at (OfType content) = TypeAsksAt at content
TaskAsksAt at (MethodArguments m form) = AreTypesIn at.types (m.argument_list ∷ alone m.this_pointer_type)
TaskAsksAt at (Chain attributes target) = at.types target ≡ true
TaskAsksAt at (BehindModifier attributes target) = at.types target ≡ true
TaskAsksAt at (Modified constant target) = at.types target ≡ true
TaskAsksAt at (Elements elements levels next) = (at.types next ≡ true) × (at.sizes next ≡ true)
TaskAsksAt at (Id met index) = at.ids index ≡ true

-- each task of a plan looks up only indices of the sets
abbrev pub AsksAt : Indices → Plan → Type 0
AsksAt at (Done document) = ⊤
AsksAt at (Later inside task) = TaskAsksAt at task
AsksAt at (Seq p q) = AsksAt at p × AsksAt at q
AsksAt at (Buffered p after_sigil after_other) = AsksAt at p
AsksAt at (Catch p) = AsksAt at p
