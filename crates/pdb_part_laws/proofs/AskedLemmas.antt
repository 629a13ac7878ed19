-- What one rule gives asks only for indices of the sets, where the type or id that it prints does.
use Rattle.std.proofs.Common.{◌≡◌, ℕ, Bool, true, false, cond, List, [], ◌∷◌, Option, Some, None, Ok, Err, Result}
use Rattle.std.specs.Prelude.{⊤, ◌==◌, codes}
use Rattle.pdb_records.specs.declared.types.TypeIndex.{TypeIndex}
use Rattle.pdb_records.specs.declared.types.TypeData.{TypeData}
use Rattle.pdb_records.specs.declared.types.TypeData.TheVariants.{Pointer, Modifier}
use Rattle.pdb_records.specs.declared.ids.IdIndex.{IdIndex}
use Rattle.pdb_errors.specs.Outcomes.{and_then}
use Rattle.pdb_types.specs.declared.read_error.Part.{Part}
use Rattle.pdb_types.specs.ReadError.{ReadErrorView}
use Rattle.pdb_type_texts.specs.declared.this.ThisParameter.{ThisParameter}
use Rattle.pdb_type_texts.specs.FlagTests.{without_arguments}
use Rattle.pdb_type_texts.specs.Functions.{unless_left_out, returned, further_types, types_between, function_arguments}
use Rattle.pdb_type_texts.specs.Ids.{scope}
use Rattle.pdb_type_texts.specs.Methods.{plain_this, printed_this, this_by_target, this_by_type, this_of}
use Rattle.pdb_type_texts.specs.Plans.{Index, Plan, Later, ◌▸◌, circular, opened, is_among, met_before, written}
use Rattle.pdb_type_texts.specs.PrintInputs.{PrintInputs}
use Rattle.pdb_part_laws.specs.Asked.{Indices, alone, AreTypesIn, AreIdsIn, AsksAt}

-- what a function returns
pub asks_returned : (at : Indices) (inside : List ℕ) (left_out : Bool) (index : Option TypeIndex)
    → AreTypesIn at.types (alone index) → AsksAt at (returned inside (unless_left_out left_out index))
asks_returned at inside true index asked = tt
asks_returned at inside false None asked = tt
asks_returned at inside false (Some index) asked = (asked.0, tt)

-- further types
pub asks_further : (at : Indices) (separator inside : List ℕ) (list : List TypeIndex)
    → AreTypesIn at.types list → AsksAt at (further_types separator inside list)
asks_further at separator inside [] asked = tt
asks_further at separator inside (next ∷ rest) asked =
    (tt, (asked.0, asks_further at separator inside rest asked.1))

-- types between separators
pub asks_between : (at : Indices) (separator inside : List ℕ) (list : List TypeIndex)
    → AreTypesIn at.types list → AsksAt at (types_between separator inside list)
asks_between at separator inside [] asked = tt
asks_between at separator inside (next ∷ rest) asked = (asked.0, asks_further at separator inside rest asked.1)

-- a function's arguments
pub asks_arguments : (at : Indices) (w : PrintInputs) (inside : List ℕ) (list : TypeIndex) → at.types list.0 ≡ true
    → AsksAt at (function_arguments w inside list)
asks_arguments at w inside list asked = by_test (without_arguments w.flags) where
  by_test : (t : Bool) → AsksAt at
      (cond t (written []) (written (codes "(") ▸ Later inside (Index list.0) ▸ written (codes ")")))
  by_test true = tt
  by_test false = (tt, (asked, tt))

-- the scope of a function
pub asks_scope : (at : Indices) (met inside : List ℕ) (index : Option IdIndex) → AreIdsIn at.ids (alone index)
    → AsksAt at (scope met inside index)
asks_scope at met inside None asked = tt
asks_scope at met inside (Some index) asked = (asked.0, tt)

-- a part that is met broken, and then a plan
pub asks_met : (at : Indices) (met : Option Part) (p : Plan) → AsksAt at p → AsksAt at (met_before met p)
asks_met at None p asked = asked
asks_met at (Some part) p asked = (tt, asked)

-- an index that opens
pub asks_opened : (at : Indices) (inside : List ℕ) (index : ℕ) (p : Plan) → AsksAt at p
    → AsksAt at (opened inside index p)
asks_opened at inside index p asked = by_test (is_among index inside) where
  by_test : (t : Bool) → AsksAt at (cond t (circular index) p)
  by_test true = tt
  by_test false = asked

-- what a method's `this` shows: an argument that it gives is in the set
abbrev pub GivesIn : Indices → Result ThisParameter ReadErrorView → Type 0
GivesIn at (Ok this) = AreTypesIn at.types (alone this.argument)
GivesIn at (Err error) = ⊤

-- what a method's `this` shows, where its type is in the set
pub gives_this : (at : Indices) (w : PrintInputs) (class : TypeIndex) (this : Option TypeIndex)
    → AreTypesIn at.types (alone this) → GivesIn at (this_of w class this)
gives_this at w class None asked = tt
gives_this at w class (Some this) asked = by_read (w.read this.0) where
  by_class : (constant : Bool) (t : Bool)
      → AreTypesIn at.types (alone (cond t (plain_this constant) (printed_this this)).argument)
  by_class constant true = tt
  by_class constant false = asked

  by_target : (content : TypeData) → AreTypesIn at.types (alone (this_by_target class this content).argument)
  by_target (Modifier m) = by_class m.constant (m.underlying_type.0 == class.0)
  by_target other = asked

  by_target_read : (r : Result TypeData ReadErrorView)
      → GivesIn at (and_then r (λ target. Ok (this_by_target class this target)))
  by_target_read (Ok content) = by_target content
  by_target_read (Err error) = tt

  by_test : (r : Result TypeData ReadErrorView) (t : Bool) → GivesIn at
      (cond t (Ok (plain_this false)) (and_then r (λ target. Ok (this_by_target class this target))))
  by_test r true = tt
  by_test r false = by_target_read r

  by_type : (content : TypeData) → GivesIn at (this_by_type w class this content)
  by_type (Pointer p) = by_test (w.read p.underlying_type.0) (p.underlying_type.0 == class.0)
  by_type other = asked

  by_read : (r : Result TypeData ReadErrorView) → GivesIn at (and_then r (this_by_type w class this))
  by_read (Ok content) = by_type content
  by_read (Err error) = tt
